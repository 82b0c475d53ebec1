use Rattle.std.proofs.Common.{◌≡◌}
use Rattle.inbox_tests.proofs.tests.order.post_some.Given as goal

abbrev pub invariant-loop-number : goal.invariant-loop-number
invariant-loop-number g l = (l.seat.inbox ≡ l.initial.seat.inbox) × (l.seat.sender ≡ l.initial.seat.sender)
