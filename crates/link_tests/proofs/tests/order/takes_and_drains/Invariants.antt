use Rattle.std.proofs.Common.{◌≡◌}
use Rattle.link_tests.proofs.tests.order.takes_and_drains.Given as goal

abbrev pub invariant-loop-number : goal.invariant-loop-number
invariant-loop-number g l = (l.take.inbox ≡ l.inbox) × (l.take.senders ≡ 1)
