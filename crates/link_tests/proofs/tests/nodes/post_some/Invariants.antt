use Rattle.std.proofs.Common.{◌≡◌, None}
use Rattle.link_tests.proofs.tests.nodes.post_some.Given as goal

abbrev pub invariant-loop-number : goal.invariant-loop-number
invariant-loop-number g l =
    (l.seat.inbox ≡ l.initial.seat.inbox) × (l.seat.sender ≡ l.initial.seat.sender) × (l.seat.half ≡ None)
