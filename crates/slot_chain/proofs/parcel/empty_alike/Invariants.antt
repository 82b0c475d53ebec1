use Rattle.std.proofs.Common.{◌≡◌, ◌++◌, All, map, take, drop}
use Rattle.slot_chain.specs.Filling.{emptied}
use Rattle.slot_chain.specs.Parcels.{IsOf}
use Rattle.slot_chain.proofs.parcel.empty_alike.Given as goal

abbrev pub invariant-loop-buf : goal.invariant-loop-buf
invariant-loop-buf l =
    (l.buffers ≡ map emptied (take l.buf-index l.fn.buffers) ++ drop l.buf-index l.fn.buffers)
    × All (IsOf l.class) (take l.buf-index l.fn.buffers)
