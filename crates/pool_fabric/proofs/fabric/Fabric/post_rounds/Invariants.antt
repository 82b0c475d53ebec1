use Rattle.std.proofs.Common.{◌≡◌, map}
use Rattle.slot_chain.specs.Buffer.{Buffer}
use Rattle.pool_fabric.specs.Seats.{seat_of, AreSeatsBy}
use Rattle.slot_balance.specs.Posts.{Posts}
use Rattle.slot_balance.specs.Weights.{weigh}
use Rattle.pool_fabric.proofs.fabric.Fabric.post_rounds.Given as goal

abbrev pub invariant-loop-batch : goal.invariant-loop-batch
invariant-loop-batch g l =
    let as_seat = seat_of g.S.Sender.inbox g.S.Sender.number g.S.Sender.sent g.S.Sender.resting in
    let p = l.initial.posting in
    record {
      same : l.posting ≡ record p { round = l.posting.round; moves = l.posting.moves; items = l.posting.items };
      refused : l.refused ≡ record { number = p.number; digits = p.digits; items = l.refused.items };
      seats : AreSeatsBy g.J.Naming.names p.number (map as_seat l.seats);
      posts : Posts p.digits p.number p.items (map as_seat l.initial.seats) l.posting.items l.refused.items (map as_seat l.seats);
    }

abbrev pub decreases-loop-batch : goal.decreases-loop-batch
decreases-loop-batch g l = weigh (λ (b : Buffer). 1) l.posting.items
