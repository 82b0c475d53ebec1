use Rattle.std.proofs.lemmas.Result.{on_ok_weaker}
use Rattle.pool_desk.proofs.ListedLaws.{home_alone}
use Rattle.pool_desk.proofs.idle.IdleDesk.list_slots.Goals as goal

pub returns-clause-ok : goal.returns-clause-ok
returns-clause-ok c = rw (← c.self.view_is) (on_ok_weaker _ (home_alone _ _ _) c.list_slots.ensures.ok)
