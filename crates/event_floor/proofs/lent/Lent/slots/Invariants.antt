use Rattle.std.proofs.Common.{◌≡◌, take, map}
use Rattle.slot_chain.specs.Slots.{slot_of}
use Rattle.event_floor.specs.Lent.{buffers_lent}
use Rattle.event_floor.proofs.lent.Lent.slots.Given as goal

abbrev pub invariant-loop-place : goal.invariant-loop-place
invariant-loop-place l = l.slots.items ≡ map slot_of (buffers_lent (take l.place-index l.self))
