use Rattle.std.proofs.Common.{◌++◌, map, flat_map, IsPermutation}
use Rattle.std.specs.List.{range_with_len}
use Rattle.slot_chain.specs.Slots.{slot_of}
use Rattle.event_floor.specs.Lent.{buffers_lent}
use Rattle.event_floor.specs.headline.ListsSlots.{slots_with}
use Rattle.trace_audit.proofs.auditing.slots_on.Given as goal

abbrev pub invariant-loop-desk : goal.invariant-loop-desk
invariant-loop-desk l = IsPermutation (map slot_of (buffers_lent l.floor.lent) ++ flat_map (slots_with l.floor) (range_with_len 0 l.desk)) l.slots.items
