use Rattle.std.proofs.Common.{◌≢◌, sym, ◌∙◌}
use Rattle.pool_desk.proofs.DeskLaws.{frees_all_cached, frees_all_due, not_both}
use Rattle.pool_desk.proofs.desk.Desk.free_all.Goals as goal
use Rattle.pool_desk.proofs.desk.Desk.free_all.Goals.{then-is_due, else-is_due}

pub returns : goal.returns
returns c =
    let other : c.args.parcel.owner ≢ c.self.inside.cache.number =
    λ e. c.if-owner-number.false (c.owner.ensures.value ∙ (e ∙ sym c.number.ensures.value)) in
    let put = c.put_all.ensures.items in
    elim c.if-is_due.branch [
      | then-is_due w ↦ rw (w.result-is, ← c.self.view_is) (frees_all_due _ c.args.parcel c.put_all.new.self other c.put_all.ensures.same put (c.is_due.ensures.0 w.if-is_due.true))
      | else-is_due w ↦ rw (w.result-is, ← c.self.view_is) (frees_all_cached _ c.args.parcel c.put_all.new.self other c.put_all.ensures.same put (λ l. not_both c.is_due.result (c.is_due.ensures.1 l) w.if-is_due.false))
    ]
