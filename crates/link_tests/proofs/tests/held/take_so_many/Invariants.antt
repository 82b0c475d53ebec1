use Rattle.std.proofs.Common.{◌≡◌}
use Rattle.link_tests.proofs.tests.held.take_so_many.Given as goal

abbrev pub invariant-loop : goal.invariant-loop
invariant-loop l = l.take.inbox ≡ l.inbox
