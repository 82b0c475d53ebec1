-- Where the slots of a region lie.
use Rattle.std.specs.Prelude.{ℕ, ◌+◌, ◌*◌, ◌<◌, ◌≤◌}
use Rattle.region_cut.specs.Limits.{chunk_size}
use Rattle.region_cut.specs.declared.slot.Slot.{Slot}
use Rattle.region_cut.specs.Classes.{size_of}

-- where the slot of a chunk of the class begins in its region
abbrev pub start_of : Slot → ℕ → ℕ
start_of s c = chunk_size * s.chunk + s.index * size_of c

-- the byte of the region is one of the slot's
abbrev pub Covers : Slot → ℕ → ℕ → Type 0
Covers s c byte = (start_of s c ≤ byte) × (byte < start_of s c + size_of c)
