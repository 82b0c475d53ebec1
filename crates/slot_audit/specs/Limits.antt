-- The limits of an audit.
use Rattle.std.specs.Prelude.{ℕ}

-- the most slots of a chunk
abbrev pub slot_limit : ℕ
slot_limit = 256

-- the places of a table that has one for each slot of 1,024 chunks
abbrev pub place_limit : ℕ
place_limit = 262144
