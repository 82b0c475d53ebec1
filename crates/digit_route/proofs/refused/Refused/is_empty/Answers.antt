use Rattle.std.proofs.Common.{◌≡◌, [], length, eqb, sym, ap, ◌∙◌}
use Rattle.std.proofs.lemmas.Bool.{false≢true}
use Rattle.digit_route.proofs.KeptLaws.{none_kept}
use Rattle.digit_route.proofs.refused.Refused.is_empty.Goals as goal

pub returns-else-is_empty : goal.returns-else-is_empty
returns-else-is_empty c = rw (← c.self.view_is) (
  (λ t. absurd (false≢true (sym c.if-is_empty.false ∙ t))),
  (λ e.
      let none : c.self.inside.kept.items ≡ [] = none_kept _ _ _ _ c.self.invariant.0 e in
      absurd (false≢true (sym c.if-is_empty.false ∙ (c.is_empty.ensures ∙ ap (λ bs. eqb (length bs) 0) none)))),
)
