use Rattle.std.proofs.Common.{◌≡◌, None}
use Rattle.link_uses.proofs.sending.send.Given as goal

abbrev pub invariant-loop : goal.invariant-loop
invariant-loop g l =
    (goal.iterator-loop g).can_next l.iterator' × (goal.iterator-loop g).is_finite l.iterator'
    × (l.seat.inbox ≡ l.initial.seat.inbox) × (l.seat.sender ≡ l.initial.seat.sender) × (l.seat.half ≡ None)
