use Rattle.std.proofs.Common.{◌≡◌, ◌++◌, map}
use Rattle.slot_balance.specs.Seats.{seat_of, AreParted}
use Rattle.slot_balance.proofs.row.part_last.Given as goal

abbrev pub invariant-loop-row : goal.invariant-loop-row
invariant-loop-row g l =
    record {
      can : (goal.iterator-loop-row g).can_next l.row-iterator;
      ends : (goal.iterator-loop-row g).is_finite l.row-iterator;
      joined : l.yielded ++ l.row-iterator.rest.items ≡ l.fn.rows.items;
      parted : AreParted l.yielded l.others.items (map (seat_of g.S.Sender.inbox g.S.Sender.number g.S.Sender.sent g.S.Sender.resting) l.last.items);
    }
