use Rattle.std.proofs.Common.{length}
use Rattle.digit_route.proofs.Loops.{Scatters}
use Rattle.digit_route.proofs.moves.scatter.Given as goal

abbrev pub invariant-loop-item : goal.invariant-loop-item
invariant-loop-item l = Scatters l.digits l.round l.initial.magazines.items l.initial.magazine l.magazines.items l.magazine l.moved

abbrev pub decreases-loop-item : goal.decreases-loop-item
decreases-loop-item l = length l.magazine
