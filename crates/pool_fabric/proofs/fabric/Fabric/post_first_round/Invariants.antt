use Rattle.std.proofs.Common.{◌≡◌, map}
use Rattle.slot_chain.specs.Buffer.{Buffer}
use Rattle.pool_fabric.specs.Seats.{seat_of, AreSeatsBy}
use Rattle.slot_balance.specs.Posts.{Posts}
use Rattle.slot_balance.specs.Weights.{weigh}
use Rattle.pool_fabric.proofs.fabric.Fabric.post_first_round.Given as goal

abbrev pub invariant-loop-batch : goal.invariant-loop-batch
invariant-loop-batch g l =
    let as_seat = seat_of g.S.Sender.inbox g.S.Sender.number g.S.Sender.sent g.S.Sender.resting in
    record {
      same : l.desk ≡ record l.initial.desk { cached = l.desk.cached };
      refused : l.refused ≡ record { number = l.initial.desk.number; digits = l.initial.desk.digits; items = l.refused.items };
      seats : AreSeatsBy g.J.Naming.names l.initial.desk.number (map as_seat l.seats);
      posts : Posts l.initial.desk.digits l.initial.desk.number l.initial.desk.cached (map as_seat l.initial.seats) l.desk.cached l.refused.items (map as_seat l.seats);
    }

abbrev pub decreases-loop-batch : goal.decreases-loop-batch
decreases-loop-batch g l = weigh (λ (b : Buffer). 1) l.desk.cached
