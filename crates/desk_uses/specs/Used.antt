-- A desk over one chunk, of which a slot was lent.
use Rattle.std.specs.Prelude.{◌≡◌, ℕ, Bool, true, false, List, [], ◌∷◌, ◌++◌, drop, replicate}
use Rattle.std.specs.List.{Contains}
use Rattle.region_cut.specs.Carved.{Carved}
use Rattle.region_cut.specs.Parts.{name_of, bytes_of}
use Rattle.region_cut.specs.declared.part.Part.{Part}
use Rattle.slot_chain.specs.Buffer.{Buffer}
use Rattle.pool_desk.specs.Desks.{DeskState}
use Rattle.pool_desk.specs.Homes.{AtHome}
use Rattle.pool_desk.specs.Homes.AtHome.{Kept}

-- the bytes, with 16 times x in front where a slot was filled
abbrev pub filled : Bool → ℕ → List ℕ → List ℕ
filled true x bytes = replicate 16 x ++ drop 16 bytes
filled false x bytes = bytes

-- of the part's chunk the first slot was given, which is at home and filled with x; or none was given
abbrev pub HasGiven : Bool → ℕ → Part → List AtHome → Carved → Type 0
HasGiven true x part home chunk =
    (b : Buffer) × Contains home (Kept b) × (chunk.taken ≡ b.bytes.ghost_name ∷ [])
    × (b.bytes.now ≡ replicate 16 x) × (chunk.rest ≡ drop 16 (bytes_of part))
HasGiven false x part home chunk = (chunk.taken ≡ []) × (chunk.rest ≡ bytes_of part)

-- a desk that drew this chunk alone
pub record IsUsed (given : Bool) (x : ℕ) (part : Part) (desk : DeskState) : Type 0 where
  pub chunk : Carved
  pub drawn : desk.drawn ≡ chunk ∷ []
  pub whole : chunk.whole ≡ name_of part
  pub slots : HasGiven given x part desk.home chunk
