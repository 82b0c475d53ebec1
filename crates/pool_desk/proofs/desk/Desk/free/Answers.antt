use Rattle.std.proofs.Common.{◌≢◌, sym, ap, ◌∙◌}
use Rattle.slot_chain.specs.Buffer.{Buffer}
use Rattle.pool_desk.proofs.DeskLaws.{frees_cached, frees_due, not_both}
use Rattle.pool_desk.proofs.desk.Desk.free.Goals as goal
use Rattle.pool_desk.proofs.desk.Desk.free.Goals.{then-is_due, else-is_due}

pub returns : goal.returns
returns c =
    let other : c.args.buf.owner ≢ c.self.inside.cache.number =
    λ e. c.if-owner-number.false (c.owner.ensures.value ∙ (ap (λ (b : Buffer). b.owner) c.reset.ensures ∙ (e ∙ sym c.number.ensures.value))) in
    let put = rw c.reset.ensures at c.put.ensures.items in
    elim c.if-is_due.branch [
      | then-is_due w ↦ rw (w.result-is, ← c.self.view_is) (frees_due _ c.args.buf c.put.new.self other c.put.ensures.same put (c.is_due.ensures.0 w.if-is_due.true))
      | else-is_due w ↦ rw (w.result-is, ← c.self.view_is) (frees_cached _ c.args.buf c.put.new.self other c.put.ensures.same put (λ l. not_both c.is_due.result (c.is_due.ensures.1 l) w.if-is_due.false))
    ]
