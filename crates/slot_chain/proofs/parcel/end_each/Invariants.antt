use Rattle.std.proofs.Common.{◌≡◌, ◌++◌, length, map}
use Rattle.slot_chain.specs.Buffer.{ended_of}
use Rattle.slot_chain.proofs.parcel.end_each.Given as goal

abbrev pub invariant-loop-buf : goal.invariant-loop-buf
invariant-loop-buf g l = record l.endings { known = map ended_of l.buffers.items ++ l.endings.known } ≡ record l.initial.endings { known = map ended_of l.initial.buffers.items ++ l.initial.endings.known }

abbrev pub decreases-loop-buf : goal.decreases-loop-buf
decreases-loop-buf g l = length l.buffers.items
