use Rattle.std.proofs.Common.{length}
use Rattle.digit_route.proofs.Loops.{Parts}
use Rattle.digit_route.proofs.moves.split.Given as goal

abbrev pub invariant-loop-item : goal.invariant-loop-item
invariant-loop-item l = Parts l.digits l.near l.t l.initial.magazine l.magazine l.nearer l.others

abbrev pub decreases-loop-item : goal.decreases-loop-item
decreases-loop-item l = length l.magazine
