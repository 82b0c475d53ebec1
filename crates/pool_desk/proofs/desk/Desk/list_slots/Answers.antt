use Rattle.std.proofs.Common.{sym, ◌∙◌}
use Rattle.pool_desk.proofs.ListedLaws.{OnOk-true, cache_listed}
use Rattle.pool_desk.proofs.desk.Desk.list_slots.Goals as goal

pub returns-then-is_ok-clause-ok : goal.returns-then-is_ok-clause-ok
returns-then-is_ok-clause-ok c =
    rw (← c.self.view_is)
    (cache_listed _ _ _ _ _ c.in_ok-list_slots.ensures.ok
    (OnOk-true c.list_slots-2.result _ (sym c.is_ok.ensures.value ∙ c.if-is_ok.true) c.list_slots-2.ensures.ok))
