use Rattle.std.proofs.Common.{◌≡◌, None}
use Rattle.link_tests.proofs.tests.nodes.rounds.Given as goal

abbrev pub invariant-loop-round : goal.invariant-loop-round
invariant-loop-round g l =
    (l.take.inbox ≡ l.initial.take.inbox) × (l.seat.inbox ≡ l.initial.seat.inbox) × (l.seat.half ≡ None)
