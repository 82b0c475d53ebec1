use Rattle.std.proofs.Common.{◌≡◌, ap, List, [], ◌∷◌, ◌++◌}
use Rattle.region_cut.specs.Bumps.{HoldsPart}
use Rattle.region_cut.specs.Carved.{carved_of}
use Rattle.pool_desk.specs.Homes.{AtHome, unused}
use Rattle.pool_desk.proofs.HomeLaws.{none_kept, unused_new, draws_new}
use Rattle.pool_desk.proofs.home.Home.claim.Goals as goal

pub returns-in-Some-clause-same : goal.returns-in-Some-clause-same
returns-in-Some-clause-same c =
    let none : c.self.inside.whole ++ c.self.inside.list ≡ [] = none_kept (c.self.inside.whole ++ c.self.inside.list) (unused c.self.inside.bump) (rw (← c.self.view_is) at c.requires) in
    let class : c.in-Some.bump.class ≡ c.self.inside.class = rw c.in-Some.is at c.self.invariant.3 in
    let holds : HoldsPart c.args.part c.self.inside.class c.renew.new.self = rw class at c.renew.ensures.renewed in
    rw (← c.self.view_is, none)
    (ap (λ (s : List AtHome). record { owner = c.self.inside.owner; class = c.self.inside.class; slots = s; drawn = carved_of c.renew.new.self ∷ c.renew.new.ties.all })
    (unused_new _ _ _ holds))

pub returns-in-Some-clause-drawn : goal.returns-in-Some-clause-drawn
returns-in-Some-clause-drawn c =
    let class : c.in-Some.bump.class ≡ c.self.inside.class = rw c.in-Some.is at c.self.invariant.3 in
    let holds : HoldsPart c.args.part c.self.inside.class c.renew.new.self = rw class at c.renew.ensures.renewed in
    rw (← c.self.view_is, c.in-Some.is, c.renew.ensures.kept) (draws_new c.args.part c.self.inside.class c.renew.new.self _ holds)

pub returns-in-None-clause-drawn : goal.returns-in-None-clause-drawn
returns-in-None-clause-drawn c =
    rw (← c.self.view_is, c.in-None.is) (draws_new c.args.part c.self.inside.class c.bump.result _ c.bump.ensures)
