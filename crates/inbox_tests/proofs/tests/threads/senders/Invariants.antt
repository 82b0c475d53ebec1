use Rattle.std.proofs.Common.{◌≡◌, All}
use Rattle.batch_inbox.specs.States.{AreSeatsOf}
use Rattle.inbox_tests.proofs.tests.threads.senders.Given as goal

abbrev pub invariant-loop : goal.invariant-loop
invariant-loop g l = AreSeatsOf l.inbox l.seats.items × All (λ p. p.seat.inbox ≡ p.inbox.now) l.senders.items
