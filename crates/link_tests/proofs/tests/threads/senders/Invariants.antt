use Rattle.std.proofs.Common.{◌≡◌, All, None}
use Rattle.link_inbox.specs.States.{AreSeatsOf, AreAtRest}
use Rattle.link_tests.proofs.tests.threads.senders.Given as goal

abbrev pub invariant-loop : goal.invariant-loop
invariant-loop g l =
    AreSeatsOf l.inbox l.seats.items × AreAtRest l.seats.items
    × All (λ p. (p.seat.inbox ≡ p.inbox.now) × (p.seat.half ≡ None)) l.senders.items
