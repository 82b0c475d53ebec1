-- Counts of buffers.
use Rattle.std.specs.Prelude.{ℕ, ◌^◌, ◌-◌, List, min, sum_by}
use Rattle.region_cut.specs.Classes.{size_of}
use Rattle.slot_chain.specs.Buffer.{Buffer}

-- n, or the greatest u64 where that is less
abbrev pub capped : ℕ → ℕ
capped n = min n (2 ^ 64 - 1)

-- the size in bytes of a buffer
abbrev pub buffer_size : Buffer → ℕ
buffer_size b = size_of b.class

-- the sum of the sizes
abbrev pub sizes : List Buffer → ℕ
sizes bs = sum_by buffer_size bs
