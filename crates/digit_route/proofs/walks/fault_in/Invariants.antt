use Rattle.digit_route.proofs.Loops.{Looked}
use Rattle.digit_route.proofs.walks.fault_in.Given as goal

abbrev pub invariant-loop-tag : goal.invariant-loop-tag
invariant-loop-tag l =
    (goal.iterator-loop-tag).can_next l.tag-iterator ×
    (goal.iterator-loop-tag).is_finite l.tag-iterator ×
    Looked l.digits l.a l.t l.magazine l.tag-iterator l.found
