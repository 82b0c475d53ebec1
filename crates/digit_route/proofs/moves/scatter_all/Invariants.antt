use Rattle.arrayvec.specs.ArrayVec.{array_vec_len}
use Rattle.digit_route.proofs.Loops.{Pours}
use Rattle.digit_route.proofs.moves.scatter_all.Given as goal

abbrev pub invariant-loop-magazine : goal.invariant-loop-magazine
invariant-loop-magazine l = Pours l.digits l.round l.initial.magazines.items l.initial.from.items l.magazines.items l.from.items

abbrev pub decreases-loop-magazine : goal.decreases-loop-magazine
decreases-loop-magazine l = array_vec_len l.from
