use Rattle.std.proofs.Common.{take, map, IsPermutation}
use Rattle.slot_chain.specs.Slots.{slot_of}
use Rattle.event_floor.specs.Inboxes.{buffers_in}
use Rattle.event_floor.proofs.inbox.Inbox.slots.Given as goal

abbrev pub invariant-loop-i : goal.invariant-loop-i
invariant-loop-i l = IsPermutation (map slot_of (buffers_in (take l.i l.self-inside.batches.items))) l.slots.items
