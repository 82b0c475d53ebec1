use Rattle.std.proofs.Common.{◌≡◌, ◌++◌, length, map, take, drop}
use Rattle.slot_chain.specs.Filling.{emptied}
use Rattle.slot_chain.proofs.Emptied.{alike_so, packed_alike, sizes_alike, written_back}
use Rattle.slot_chain.proofs.parcel.BufParcel.empty_alike.Goals as goal

pub invariant_of-self : goal.invariant_of-self
invariant_of-self c =
    let i = c.self.inside in let bs = i.buffers.items in let new = c.empty_alike.new.buffers in
    let same : map emptied new ≡ map emptied bs = alike_so _ bs new _ (rw c.as_mut_slice.ensures.value at c.empty_alike.ensures) in
    let back : take i.buffers.len (new ++ drop (length new) bs) ≡ new = written_back bs new i.buffers.len i.buffers.ok.0 same in
    rw (back, sizes_alike bs new same) (packed_alike i.owner bs new same c.self.invariant.0, c.self.invariant.1, c.self.invariant.2, c.self.invariant.3)
