use Rattle.std.proofs.Common.{◌≡◌}
use Rattle.slot_chain.specs.Buffer.{Buffer}
use Rattle.slot_balance.specs.Posts.{Posts}
use Rattle.slot_balance.specs.Weights.{weigh}
use Rattle.seated_desk.specs.Kept.{IsRefusedOf}
use Rattle.seated_desk.specs.Ways.{seats_at}
use Rattle.seated_desk.proofs.moving.post_each.Given as goal

abbrev pub invariant-loop-batch : goal.invariant-loop-batch
invariant-loop-batch l =
    let d = l.initial.desk in
    record {
      same : l.desk ≡ record d { cached = l.desk.cached };
      of : IsRefusedOf d l.refused;
      posts : Posts d.digits d.number d.cached (seats_at l.initial.seats) l.desk.cached l.refused.items (seats_at l.seats);
    }

abbrev pub decreases-loop-batch : goal.decreases-loop-batch
decreases-loop-batch l = weigh (λ (b : Buffer). 1) l.desk.cached
