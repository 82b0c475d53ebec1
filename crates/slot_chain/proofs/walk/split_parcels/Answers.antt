use Rattle.std.proofs.Common.{◌∙◌, sym}
use Rattle.slot_chain.proofs.Filled.{before_filled, walked}
use Rattle.slot_chain.proofs.walk.split_parcels.Goals as goal

pub returns : goal.returns
returns c =
    let rest = c.in_ok-parcel.rest.now in
    let e = c.in_ok-parcel.ensures.cases.0 in
    let f = sym c.buffers.ensures ∙ c.in_ok-last.ensures.cases.0 in
    (before_filled c.args.whole.now rest c.in_ok-parcel.parcel.now e c.requires, walked c.args.whole.now rest c.in_ok-parcel.parcel.now _ _ e f)
