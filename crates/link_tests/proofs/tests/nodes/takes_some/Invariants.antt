use Rattle.std.proofs.Common.{◌≡◌}
use Rattle.link_tests.proofs.tests.nodes.takes_some.Given as goal

abbrev pub invariant-loop-number : goal.invariant-loop-number
invariant-loop-number g l = (l.take.inbox ≡ l.initial.take.inbox) × (l.take.senders ≡ l.initial.take.senders)
