use Rattle.std.proofs.Common.{sym, ap, take, ◌∙◌}
use Rattle.pool_desk.proofs.ListedLaws.{Adds-true, cut_back}
use Rattle.pool_desk.proofs.homes.Homes.list_slots.Goals as goal

pub returns-then-is_ok-clause-ok : goal.returns-then-is_ok-clause-ok
returns-then-is_ok-clause-ok c =
    rw (← c.self.view_is) (Adds-true _ _ _ _ (sym c.is_ok.ensures.value ∙ c.if-is_ok.true) (rw c.as_slice.ensures.value at c.add_all.ensures))

pub returns-clause-err : goal.returns-clause-err
returns-clause-err c =
    c.truncate.ensures.items ∙ (ap (λ n. take n c.add_all.new.slots.items) (c.len-start.ensures ∙ c.args.slots.now.ok.0) ∙ cut_back _ _ _ _ c.add_all.ensures)
