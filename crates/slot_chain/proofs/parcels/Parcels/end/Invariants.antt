use Rattle.std.proofs.Common.{◌≡◌, ◌++◌, length, map}
use Rattle.slot_chain.specs.Buffer.{ended_of}
use Rattle.slot_chain.proofs.parcels.Parcels.end.Given as goal

abbrev pub invariant-loop-parcel : goal.invariant-loop-parcel
invariant-loop-parcel l = record l.endings { known = map ended_of l.parcels ++ l.endings.known } ≡ record l.initial.endings { known = map ended_of l.initial.parcels ++ l.initial.endings.known }

abbrev pub decreases-loop-parcel : goal.decreases-loop-parcel
decreases-loop-parcel l = length l.parcels
