use Rattle.std.proofs.Common.{[]}
use Rattle.pool_desk.proofs.ListedLaws.{home_listed, none_listed, unused_places}
use Rattle.pool_desk.proofs.home.Home.add_slots.Goals as goal

pub returns-in-None : goal.returns-in-None
returns-in-None c =
    rw (← c.self.view_is, c.in-None.is) (home_listed _ _ [] _ _ _ c.in_ok-list_slots_with.ensures.ok (none_listed _ _))

pub returns-in-Some : goal.returns-in-Some
returns-in-Some c =
    rw (← c.self.view_is, c.in-Some.is)
    (home_listed _ _ _ _ _ _ c.in_ok-list_slots_with.ensures.ok (rw (unused_places _ _ _ _ _ _) c.add_unused.ensures))
