use Rattle.std.proofs.Common.{◌≡◌, None}
use Rattle.link_tests.proofs.tests.empties.sixteen_pass.Given as goal

abbrev pub invariant-loop-number : goal.invariant-loop-number
invariant-loop-number g l =
    (l.take.inbox ≡ l.initial.take.inbox) × (l.seat.inbox ≡ l.initial.seat.inbox) × (l.seat.half ≡ None)
