use Rattle.std.proofs.Common.{◌≡◌, ◌≢◌, [], All, map, rules}
use Rattle.slot_chain.specs.Filling.{emptied}
use Rattle.slot_chain.specs.Parcels.{IsOf, IsPacked}
use Rattle.pool_desk.proofs.HomeLaws.{emptied_some, emptied_whole, packed_ready}
use Rattle.pool_desk.proofs.homes.Homes.class_of_whole.Goals as goal

pub returns-then-empty_alike-clause-emptied : goal.returns-then-empty_alike-clause-emptied
returns-then-empty_alike-clause-emptied c =
    let p = c.args.parcel.now in
    let alike : All (IsOf c.class-class.result) p.items × (c.empty_alike.new.self ≡ record p { items = map emptied p.items }) =
    rw c.if-empty_alike.true at c.empty_alike.ensures in
    emptied_whole p c.empty_alike.new.self alike.1

pub returns-then-empty_alike-clause-ready : goal.returns-then-empty_alike-clause-ready
returns-then-empty_alike-clause-ready c =
    let p = c.args.parcel.now in
    let alike : All (IsOf c.class-class.result) p.items × (c.empty_alike.new.self ≡ record p { items = map emptied p.items }) =
    rw c.if-empty_alike.true at c.empty_alike.ensures in
    let packed : All (IsPacked c.args.self.now.owner) p.items = rw c.requires at c.owner-packed.ensures.packed in
    let some : p.items ≢ [] = search rules in
    rw alike.1 (emptied_some p.items some, packed_ready _ _ p.items packed alike.0)
