use Rattle.std.proofs.Common.{refl, sym, ◌∙◌}
use Rattle.pool_desk.proofs.HomeLaws.{unused_all, unused_some, unused_none}
use Rattle.pool_desk.proofs.home.next_slot.Goals as goal

pub returns-then-left-eq0-clause-value : goal.returns-then-left-eq0-clause-value
returns-then-left-eq0-clause-value c = ((refl, unused_none _ _ _ _ _ _ (sym c.left.ensures ∙ c.if-left-eq0.true)), refl)

pub returns-in-Err-clause-value : goal.returns-in-Err-clause-value
returns-in-Err-clause-value c =
    ((unused_some _ _ _ _ _ _ (λ e. c.if-left-eq0.false (c.left.ensures ∙ e)), unused_all _ _ _ _ _ _), c.in-Err.ensures.value)
