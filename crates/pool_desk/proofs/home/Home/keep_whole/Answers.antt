use Rattle.std.proofs.Common.{◌++◌, All, IsPermutation}
use Rattle.std.proofs.lemmas.List.Elements.{All-append}
use Rattle.std.proofs.lemmas.List.Sorted.{All-permutation}
use Rattle.pool_desk.specs.Homes.{IsReady, LiesIn}
use Rattle.pool_desk.proofs.HomeLaws.{first_more, kept_moved, ready_lies, second_more}
use Rattle.pool_desk.proofs.home.Home.keep_whole.Goals as goal

pub invariant_of-self : goal.invariant_of-self
invariant_of-self c =
    let h = c.self.inside in
    let back = c.in-Some.ensures in
    let moved : IsPermutation (h.list ++ c.args.parcel.items) c.store_all.new.list = rw (c.into_buffers-array.ensures.items, back.0) at c.store_all.ensures.list in
    let each : All (IsReady h.owner h.class) c.args.parcel.items = rw (← c.self.view_is) at c.requires.each in (
      c.self.invariant.0,
      All-permutation (LiesIn h.owner h.class) (h.list ++ c.args.parcel.items) c.store_all.new.list moved (All-append (LiesIn h.owner h.class) h.list c.args.parcel.items c.self.invariant.1 (ready_lies h.owner h.class c.args.parcel.items each)),
      rw back.1 c.self.invariant.2,
      c.self.invariant.3,
      c.self.invariant.4,
      c.self.invariant.5,
    )

pub invariant_of-self-in_default : goal.invariant_of-self-in_default
invariant_of-self-in_default c =
    let h = c.self.inside in
    let each : All (IsReady h.owner h.class) c.args.parcel.items = rw (← c.self.view_is) at c.requires.each in
    (c.self.invariant.0, c.self.invariant.1, rw c.in_default.ensures (All-append (IsReady h.owner h.class) h.whole c.args.parcel.items c.self.invariant.2 each), c.self.invariant.3, c.self.invariant.4, c.self.invariant.5)

pub returns-in-Some-clause-slots : goal.returns-in-Some-clause-slots
returns-in-Some-clause-slots c =
    let h = c.self.inside in
    let back = c.in-Some.ensures in
    let moved : IsPermutation (h.list ++ c.args.parcel.items) c.store_all.new.list = rw (c.into_buffers-array.ensures.items, back.0) at c.store_all.ensures.list in
    rw (← c.self.view_is, back.1) (kept_moved c.args.parcel.items _ _ _ (second_more h.whole c.args.parcel.items h.list c.store_all.new.list moved))

pub returns-in_default-clause-slots : goal.returns-in_default-clause-slots
returns-in_default-clause-slots c =
    rw (← c.self.view_is, c.in_default.ensures) (kept_moved c.args.parcel.items _ _ _ (first_more c.self.inside.whole c.args.parcel.items c.self.inside.list))
