use Rattle.std.proofs.Common.{◌≡◌, ◌-◌, ◌^◌, min, take, length}
use Rattle.event_floor.specs.Inboxes.{buffers_in}
use Rattle.event_floor.proofs.inbox.Inbox.count.Given as goal

abbrev pub invariant-loop-i : goal.invariant-loop-i
invariant-loop-i l = l.count ≡ min (length (buffers_in (take l.i l.self-inside.batches.items))) (2 ^ 64 - 1)
