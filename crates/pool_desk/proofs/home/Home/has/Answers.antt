use Rattle.std.proofs.Common.{◌≡◌, ◌++◌, refl, sym, ◌∙◌, []}
use Rattle.pool_desk.specs.Homes.{unused}
use Rattle.pool_desk.proofs.HomeLaws.{behind_none, front_none, none_kept, left_some, unused_length}
use Rattle.pool_desk.proofs.DeskLaws.{not_both}
use Rattle.pool_desk.proofs.home.Home.has.Goals as goal

pub returns-then-not-is_empty : goal.returns-then-not-is_empty
returns-then-not-is_empty c =
    rw (← c.self.view_is)
    (λ _ e. not_both c.is_empty.result (c.is_empty.ensures.1 (behind_none c.self.inside.whole c.self.inside.list (none_kept (c.self.inside.whole ++ c.self.inside.list) (unused c.self.inside.bump) e))) c.if-not-is_empty.true, λ _. refl)

pub returns-then-not-is_empty-2 : goal.returns-then-not-is_empty-2
returns-then-not-is_empty-2 c =
    rw (← c.self.view_is)
    (λ _ e. not_both c.is_empty-2.result (c.is_empty-2.ensures.1 (front_none c.self.inside.whole c.self.inside.list (none_kept (c.self.inside.whole ++ c.self.inside.list) (unused c.self.inside.bump) e))) c.if-not-is_empty-2.true, λ _. refl)

pub returns-in-None : goal.returns-in-None
returns-in-None c =
    let none : c.self.inside.list ≡ [] = c.is_empty.ensures.0 c.if-not-is_empty.false in
    let whole : c.self.inside.whole ≡ [] = c.is_empty-2.ensures.0 c.if-not-is_empty-2.false in
    rw (← c.self.view_is, none, whole, c.in-None.is) (left_some 0 [] refl)

pub returns-in-Some : goal.returns-in-Some
returns-in-Some c =
    let none : c.self.inside.list ≡ [] = c.is_empty.ensures.0 c.if-not-is_empty.false in
    let whole : c.self.inside.whole ≡ [] = c.is_empty-2.ensures.0 c.if-not-is_empty-2.false in
    rw (← c.self.view_is, none, whole, c.in-Some.is) (left_some c.left.result _ (unused_length _ _ _ _ _ _ ∙ sym c.left.ensures))
