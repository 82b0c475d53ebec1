-- The limits of a region.
use Rattle.std.specs.Prelude.{ℕ}

-- the bytes of a chunk
abbrev pub chunk_size : ℕ
chunk_size = 4096

-- the most chunks of a region
abbrev pub chunk_limit : ℕ
chunk_limit = 1024
