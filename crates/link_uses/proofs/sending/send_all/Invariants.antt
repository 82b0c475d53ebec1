use Rattle.std.proofs.Common.{◌≡◌, None}
use Rattle.link_uses.proofs.sending.send_all.Given as goal

abbrev pub invariant-loop-batch : goal.invariant-loop-batch
invariant-loop-batch g l =
    (goal.iterator-loop-batch g).can_next l.batch-iterator × (goal.iterator-loop-batch g).is_finite l.batch-iterator
    × (l.seat.inbox ≡ l.initial.seat.inbox) × (l.seat.sender ≡ l.initial.seat.sender) × (l.seat.half ≡ None)
