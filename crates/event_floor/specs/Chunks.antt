-- The chunks of a region, drawn and undrawn.
use Rattle.std.specs.Prelude.{ℕ, zero, suc, ◌≡◌, ◌+◌, List, [], ◌∷◌, ◌++◌, length, map, drop, reverse, Option}
use Rattle.std.specs.Prelude.{option_map, slice_get}
use Rattle.std.specs.Borrow.{GName}
use Rattle.region_cut.specs.declared.part.Part.{Part}
use Rattle.region_cut.specs.Endings.{Ended}
use Rattle.region_cut.specs.Parts.{number_of, name_of, bytes_of}
use Rattle.pool_machine.specs.declared.chunk.DrawnChunk.{DrawnChunk}

-- the names of the parts of all chunks, the chunks that are drawn, and the bytes of the parts of the others, all in the
-- order of their numbers
pub record ChunksState : Type 0 where
  pub parts : List GName
  pub drawn : List DrawnChunk
  pub undrawn : List (List ℕ)

-- n numbers from `least` on, the least of them last
abbrev pub stacked : ℕ → ℕ → List ℕ
stacked least zero = []
stacked least (suc n) = stacked (least + 1) n ++ least ∷ []

-- the undrawn of these parts, where so many are drawn: a stack with the least number on top
pub record AreUndrawn (drawn : ℕ) (parts : List GName) (undrawn : List Part) : Type 0 where
  pub count : length parts ≡ drawn + length undrawn
  pub numbers : map number_of undrawn ≡ stacked drawn (length undrawn)
  pub names : map name_of undrawn ≡ reverse (drop drawn parts)

-- a part that is let go ends as it is
abbrev pub ended_part : Part → Ended
ended_part p = record { name = name_of p; bytes = bytes_of p }

-- and so do the parts of these names, each with its bytes
abbrev pub ended_parts : List GName → List (List ℕ) → List Ended
ended_parts (x ∷ xs) (b ∷ bs) = record { name = x; bytes = b } ∷ ended_parts xs bs
ended_parts xs bs = []

-- the class of a chunk, where it is drawn
abbrev pub class_drawn : List DrawnChunk → ℕ → Option ℕ
class_drawn drawn chunk = option_map (λ (d : DrawnChunk). d.class) (slice_get drawn chunk)
