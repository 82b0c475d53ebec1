use Rattle.std.proofs.Common.{◌++◌}
use Rattle.slot_chain.specs.Magazines.{named_in}
use Rattle.slot_chain.proofs.Filled.{appended}
use Rattle.slot_chain.proofs.magazine.Magazine.append.Goals as goal

pub returns-in_default : goal.returns-in_default
returns-in_default c =
    let s = c.self.inside in
    rw (← c.self.view_is) (appended s.whole c.args.parcel.items (named_in s.array ++ s.linked) c.put.new.self (rw c.in_default.is at c.put.ensures))
