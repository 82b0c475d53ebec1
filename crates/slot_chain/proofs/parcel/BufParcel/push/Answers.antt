use Rattle.std.proofs.Common.{◌≡◌, ◌≤◌, ◌*◌, length, arith, vec_capacity}
use Rattle.region_cut.specs.Classes.{size_of}
use Rattle.slot_chain.specs.Counts.{sizes}
use Rattle.slot_chain.specs.Parcels.{most_places}
use Rattle.slot_chain.proofs.Sums.{size_most, sizes_most}
use Rattle.slot_chain.proofs.parcel.BufParcel.push.Goals as goal

pub overflow_add-self : goal.overflow_add-self
overflow_add-self c =
    let i = c.self.inside in
    let sum : i.bytes ≡ sizes i.buffers.items = c.self.invariant.1 in
    let places : vec_capacity i.buffers ≤ most_places = c.self.invariant.2 in
    let all : sizes i.buffers.items ≤ length i.buffers.items * 1024 = sizes_most i.buffers.items in
    let one : size_of c.args.buf.class ≤ 1024 = size_most c.args.buf.class in
    let size : c.capacity.result ≡ size_of c.args.buf.class = rw c.set_forwards.ensures at c.capacity.ensures in
    omega (arith, i.buffers.ok, sum, places, all, one, size)
