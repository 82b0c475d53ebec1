use Rattle.std.proofs.Common.{◌≡◌}
use Rattle.inbox_uses.proofs.taking.take_all.Given as goal

abbrev pub invariant-loop : goal.invariant-loop
invariant-loop g l =
    (goal.iterator-loop g).can_next l.iterator' × (goal.iterator-loop g).is_finite l.iterator'
    × (g.M.TakeSeat.Receiver.inbox l.seat ≡ g.M.TakeSeat.Receiver.inbox l.initial.seat)
    × (g.M.TakeSeat.Receiver.senders l.seat ≡ g.M.TakeSeat.Receiver.senders l.initial.seat)
