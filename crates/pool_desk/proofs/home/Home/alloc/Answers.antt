use Rattle.std.proofs.Common.{◌≡◌, refl, sym, ◌∙◌}
use Rattle.pool_desk.specs.Homes.{unused}
use Rattle.pool_desk.proofs.HomeLaws.{apart_keeps, gives_apart, gives_kept, rest_own, none_own}
use Rattle.pool_desk.proofs.home.Home.alloc.Goals as goal

pub returns-in-Some-clause-value : goal.returns-in-Some-clause-value
returns-in-Some-clause-value c =
    rw (← c.self.view_is) (gives_kept c.self.inside.owner c.self.inside.class c.self.inside.whole c.self.inside.list c.pop.new.self c.in-Some.buf (unused c.self.inside.bump) _ c.self.invariant.1 c.in-Some.ensures)

pub invariant_of-self : goal.invariant_of-self
invariant_of-self c = (c.self.invariant.0, rest_own _ _ c.self.inside.list c.pop.new.self c.in-Some.buf c.self.invariant.1 c.in-Some.ensures, c.self.invariant.2, c.self.invariant.3, c.self.invariant.4, c.self.invariant.5)

pub returns-in-Some-clause-same : goal.returns-in-Some-clause-same
returns-in-Some-clause-same c = rw (← c.self.view_is) refl

pub invariant_of-self-in-Some-take_apart : goal.invariant_of-self-in-Some-take_apart
invariant_of-self-in-Some-take_apart c =
    let h = c.self.inside in let t = c.in-Some-take_apart.ensures in
    let keeps = apart_keeps h.owner h.class h.whole c.pop.new.self c.in-Some-take_apart.buf c.take_apart.new.whole c.take_apart.new.list
    (record { rest = t.0; array = t.1; listed = t.2 }) c.self.invariant.2 (none_own h.owner h.class c.pop.new.self c.in_default.ensures.1) in
    (c.self.invariant.0, keeps.0, keeps.1, c.self.invariant.3, c.self.invariant.4, c.self.invariant.5)

pub returns-in-Some-take_apart-clause-value : goal.returns-in-Some-take_apart-clause-value
returns-in-Some-take_apart-clause-value c =
    let h = c.self.inside in let t = c.in-Some-take_apart.ensures in
    let none : h.list ≡ c.pop.new.self = c.in_default.ensures.0 ∙ sym c.in_default.ensures.1 in
    rw (← c.self.view_is, none)
    (gives_apart h.owner h.class h.whole c.pop.new.self c.in-Some-take_apart.buf c.take_apart.new.whole c.take_apart.new.list (unused h.bump) _
    (record { rest = t.0; array = t.1; listed = t.2 }) c.self.invariant.2 (none_own h.owner h.class c.pop.new.self c.in_default.ensures.1))
