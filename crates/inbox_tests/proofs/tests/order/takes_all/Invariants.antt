use Rattle.std.proofs.Common.{◌≡◌}
use Rattle.inbox_tests.proofs.tests.order.takes_all.Given as goal

abbrev pub invariant-loop-number : goal.invariant-loop-number
invariant-loop-number g l = l.take.inbox ≡ l.inbox
