use Rattle.std.proofs.Common.{rules, ◌≡◌, refl, length}
use Rattle.std.proofs.lemmas.List.{length-append}
use Rattle.pool_desk.specs.Homes.{unused}
use Rattle.pool_desk.proofs.HomeLaws.{kept_length, unused_length}
use Rattle.pool_desk.proofs.home.Home.count.Goals as goal
use Rattle.pool_desk.proofs.home.Home.count.Goals.{in-None, in-Some}

pub returns : goal.returns
returns c =
    let l : length (unused c.self.inside.bump) ≡ c.match-self.left = elim c.match-self.branch [ in-None w ↦ rw (w.in-None.is, w.left-is) refl | in-Some w ↦ rw (w.in-Some.is, w.left-is, w.left.ensures) (unused_length _ _ _ _ _ _) ] in
    let both = length-append c.self.inside.whole c.self.inside.list in
    rw (← c.self.view_is, kept_length, l) (search (rules, both))
