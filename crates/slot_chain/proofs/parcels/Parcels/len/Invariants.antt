use Rattle.std.proofs.Common.{◌≡◌, ◌-◌, ◌^◌, min, take, length}
use Rattle.slot_chain.specs.Magazines.{packed_in}
use Rattle.slot_chain.proofs.parcels.Parcels.len.Given as goal

abbrev pub invariant-loop-parcel : goal.invariant-loop-parcel
invariant-loop-parcel l = l.total ≡ min (length (packed_in (take l.parcel-index l.parcel-items))) (2 ^ 64 - 1)
