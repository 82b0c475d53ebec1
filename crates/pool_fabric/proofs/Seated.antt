-- The seats of one sender stay so, whatever is sent from them.
use Rattle.std.proofs.Common.{ℕ, List, ◌∙◌}
use Rattle.slot_chain.specs.Buffer.{Buffer}
use Rattle.digit_route.specs.States.{BatchState}
use Rattle.slot_balance.specs.Posts.{SendsOrKeeps}
use Rattle.slot_balance.proofs.Seated.{get_kept}
use Rattle.pool_fabric.specs.Names.{Names}
use Rattle.pool_fabric.specs.Seats.{SeatState, AreSeatsBy}

pub seats_kept : (n : Names) (a : ℕ) (b : BatchState) (ss ss' : List SeatState) (x y : List Buffer) → AreSeatsBy n a ss → SendsOrKeeps b ss x ss' y → AreSeatsBy n a ss'
seats_kept n a b ss ss' x y i h = record {
  each = λ j z e.
      let w = get_kept b ss ss' x y h j z e in
      let o = i.each j w.0 w.1 in
      (w.2.0 ∙ o.0, w.2.1 ∙ o.1, w.2.2 ∙ o.2);
}
