use Rattle.std.proofs.Common.{◌≡◌, ◌+◌, ◌<◌, ◌^◌, length}
use Rattle.slot_chain.specs.Counts.{capped, sizes}
use Rattle.slot_chain.proofs.walk.bytes_in.Given as goal

abbrev pub invariant-loop-tag : goal.invariant-loop-tag
invariant-loop-tag l = (capped (l.total + sizes l.walk) ≡ capped (sizes l.initial.walk)) × (l.total < 2 ^ 64)

abbrev pub decreases-loop-tag : goal.decreases-loop-tag
decreases-loop-tag l = length l.walk
