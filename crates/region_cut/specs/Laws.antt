-- What slices hold when their borrows end, where a slot's bytes then lie, and the laws of both.
use Rattle.std.specs.Prelude.{ℕ, ◌≡◌, ◌≢◌, ◌*◌, ◌/◌, ◌<◌, List, [], ◌∷◌, ◌++◌, length, take, drop, All, Some}
use Rattle.std.specs.List.{slice_get, flat_map}
use Rattle.std.specs.Borrow.{Fml, GName, ftrue, fsep}
use base.Fml.{fall, fwand}
use Rattle.region_cut.specs.Limits.{chunk_size}
use Rattle.region_cut.specs.declared.part.Part.{Part}
use Rattle.region_cut.specs.declared.part.Piece.{Piece}
use Rattle.region_cut.specs.declared.part.Bump.{Bump}
use Rattle.region_cut.specs.declared.slot.Slot.{Slot}
use Rattle.region_cut.specs.Bumps.{pieces_of, GivesNext}
use Rattle.region_cut.specs.Classes.{size_of, slots_of}
use Rattle.region_cut.specs.Endings.{Ended, Agrees, IsKnown, end_in}
use Rattle.region_cut.specs.Joins.{ends, joins}
use Rattle.region_cut.specs.Parts.{ArePartsOf, bytes_of}
use Rattle.region_cut.specs.Ranges.{start_of, Covers}

-- what the slice of each name holds when its borrow ends
abbrev pub Ending : Type 0
Ending = GName → List ℕ

-- the slices of these names end so
unfoldable pub all_end : Ending → List GName → Fml
all_end end [] = ftrue
all_end end (x ∷ xs) = fsep (ends x (end x)) (all_end end xs)

-- Where the slices named xs were lent out of the one named γ, one after the other from its front, and the one
-- named δ is what was left: whatever these end as, γ ends as that, joined in order.
abbrev pub WholeEndsJoined : Fml
WholeEndsJoined =
    fall Ending (λ end. fall GName (λ γ. fall (List GName) (λ xs. fall GName (λ δ.
    fwand (joins γ xs δ) (fwand (all_end end (xs ++ δ ∷ [])) (ends γ (flat_map end (xs ++ δ ∷ []))))))))

-- the bytes v stand in the bytes w from the place on
abbrev pub StandsAt : List ℕ → ℕ → List ℕ → Type 0
StandsAt v place w = take (length v) (drop place w) ≡ v

-- The bytes begin with those that the slices named xs end as, in order, each of z bytes.
pub record BeginsWith (end : Ending) (xs : List GName) (z : ℕ) (bytes : List ℕ) : Type 0 where
  pub sizes : All (λ x. length (end x) ≡ z) xs
  pub rest : List ℕ
  pub joined : bytes ≡ flat_map end xs ++ rest

-- Of such slices the one at the index i lies at i * z.
abbrev pub SlicesLieInOrder : Type 0
SlicesLieInOrder =
    (end : Ending) (xs : List GName) (z : ℕ) (bytes : List ℕ) → BeginsWith end xs z bytes
    → (i : ℕ) (x : GName) → slice_get xs i ≡ Some x → StandsAt (end x) (i * z) bytes

-- A region ends as its chunks, and the slot's chunk as the slots of its class: then the slice that is named where
-- the slot stands lies at the slot's range of the region.
abbrev pub SlotsLieAtTheirRanges : Type 0
SlotsLieAtTheirRanges =
    (end : Ending) (s : Slot) (c : ℕ) (region : List ℕ)
    → (chunks : List GName) → BeginsWith end chunks chunk_size region
    → (chunk : GName) → slice_get chunks s.chunk ≡ Some chunk
    → (slots : List GName) → BeginsWith end slots (size_of c) (end chunk)
    → (slot : GName) → slice_get slots s.index ≡ Some slot
    → StandsAt (end slot) (start_of s c) region

-- A cursor's slice of the index i is the i-th that it gave.
abbrev pub SlicesAreGivenInOrder : Type 0
SlicesAreGivenInOrder =
    (b b' : Bump) (p : Piece) → GivesNext b b' p → slice_get (pieces_of b') p.slot.index ≡ Some p.bytes.ghost_name

-- The part at the index i of a cut has the number i, and its bytes stand from chunk_size * i on.
abbrev pub PartsLieInOrder : Type 0
PartsLieInOrder =
    (bytes : List ℕ) (parts : List Part) → ArePartsOf bytes parts
    → (i : ℕ) (p : Part) → slice_get parts i ≡ Some p
    → (p.chunk ≡ i) × StandsAt p.bytes.now (chunk_size * i) bytes

-- There is a part for each whole chunk, and the parts and then the tail behind them, joined in order, are the bytes.
abbrev pub PartsMakeTheWhole : Type 0
PartsMakeTheWhole =
    (bytes : List ℕ) (parts : List Part) → ArePartsOf bytes parts
    → (length parts ≡ length bytes / chunk_size)
    × (flat_map bytes_of parts ++ drop (chunk_size * length parts) bytes ≡ bytes)

-- Two slots share no byte, where each is one of a chunk of its class, and a chunk has one class.
abbrev pub SlotsShareNoByte : Type 0
SlotsShareNoByte =
    (s t : Slot) (c d : ℕ) → s ≢ t → (s.chunk ≡ t.chunk → c ≡ d) → s.index < slots_of c → t.index < slots_of d
    → (byte : ℕ) → Covers s c byte → Covers t d byte → ⊥

-- What is known of a slice stays, whatever is learned later.
abbrev pub KnownEndsStay : Type 0
KnownEndsStay =
    (new old : List Ended) → Agrees old → Agrees (new ++ old)
    → (x : GName) → IsKnown old x → IsKnown (new ++ old) x × (end_in (new ++ old) x ≡ end_in old x)
