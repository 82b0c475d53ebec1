use Rattle.std.proofs.Common.{◌++◌, IsPermutation, map}
use Rattle.pool_desk.specs.Homes.{comes_home}
use Rattle.pool_desk.proofs.HomeLaws.{home_alike, ready_comes}
use Rattle.pool_desk.proofs.desk.Desk.keep_parcel.Goals as goal

pub returns-in-Some-clause-home : goal.returns-in-Some-clause-home
returns-in-Some-clause-home c =
    let p = c.class_of_whole.new.parcel in
    let ready = ready_comes _ _ p.items c.in-Some.ensures.ready.1 in
    let alike = home_alike c.args.parcel.items p.items c.class_of_whole.ensures.emptied.1 in
    let slots : IsPermutation (map comes_home c.args.parcel.items ++ c.self.inside.homes.slots) c.keep_whole.new.self.slots =
    rw (ready, alike, c.class_of_whole.ensures.same) at c.keep_whole.ensures.slots in
    rw (← c.self.view_is) slots

pub returns-in-None-clause-home : goal.returns-in-None-clause-home
returns-in-None-clause-home c =
    let alike = home_alike c.args.parcel.items c.class_of_whole.new.parcel.items c.class_of_whole.ensures.emptied.1 in
    let slots : IsPermutation (map comes_home c.args.parcel.items ++ c.self.inside.homes.slots) c.keep_all-emptied.new.self.slots =
    rw (c.into_buffers.ensures.items, alike, c.class_of_whole.ensures.same) at c.keep_all-emptied.ensures.slots in
    rw (← c.self.view_is) slots
