use Rattle.std.proofs.Common.{◌≡◌, ◌+◌, ◌*◌, ◌/◌, length}
use Rattle.std.specs.Vec.Iter.{into_iter_len}
use Rattle.region_cut.specs.Classes.{slots_of}
use Rattle.region_cut.specs.Limits.{chunk_size}
use Rattle.chain_uses.proofs.filling.fill_region.Given as goal

abbrev pub invariant-loop-part : goal.invariant-loop-part
invariant-loop-part l =
    (goal.iterator-loop-part).can_next l.part-iterator ×
    (goal.iterator-loop-part).is_finite l.part-iterator ×
    (length l.chain ≡ length l.yielded * slots_of l.class) ×
    (length l.yielded + into_iter_len l.part-iterator ≡ length l.fn.region / chunk_size)
