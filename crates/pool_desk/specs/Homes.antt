-- What a desk has at home for one class.
use Rattle.std.specs.Prelude.{◌≡◌, ◌≢◌, ℕ, zero, suc, ◌+◌, List, [], ◌∷◌, ◌++◌, All, IsPermutation, take, drop}
use Rattle.std.specs.Prelude.{Option, Some, None, length}
use Rattle.std.specs.Borrow.{GName}
use Rattle.pool_desk.specs.declared.error.DeskError.{DeskError}
use Rattle.pool_desk.specs.declared.error.DeskError.TheVariants.{NeedChunk, NoMemory}
use Rattle.region_cut.specs.declared.slot.Slot.{Slot}
use Rattle.region_cut.specs.declared.part.Bump.{Bump}
use Rattle.region_cut.specs.declared.part.Part.{Part}
use Rattle.region_cut.specs.Bumps.{left_of, part_of}
use Rattle.region_cut.specs.Carved.{Carved, carved_of}
use Rattle.region_cut.specs.Classes.{size_of}
use Rattle.slot_chain.specs.Buffer.{Buffer}
use Rattle.slot_chain.specs.Filling.{emptied}
use Rattle.slot_chain.specs.Parcels.{IsOf, IsPacked}

-- a slot that was never handed out: the name of its chunk's part, and its bytes
pub record Unused : Type 0 where
  pub slot : Slot
  pub class : ℕ
  pub part : GName
  pub bytes : List ℕ

-- a slot at home: a buffer that came home, or a slot that was never handed out
pub data AtHome : Type 0 where
  Kept : (buffer : Buffer) → AtHome
  Fresh : (unused : Unused) → AtHome

-- an own buffer comes home: nothing of it counts as filled any more
abbrev pub comes_home : Buffer → AtHome
comes_home b = Kept (emptied b)

-- a buffer that came home is this owner's
abbrev pub IsOwn : ℕ → AtHome → Type 0
IsOwn owner (Kept b) = b.owner ≡ owner
IsOwn owner (Fresh u) = Unit {0}

-- the buffers among the slots at home
abbrev pub kept_in : List AtHome → List Buffer
kept_in [] = []
kept_in (Kept b ∷ hs) = b ∷ kept_in hs
kept_in (Fresh u ∷ hs) = kept_in hs

abbrev pub slot_at : AtHome → Slot
slot_at (Kept b) = b.slot
slot_at (Fresh u) = u.slot

abbrev pub class_at : AtHome → ℕ
class_at (Kept b) = b.class
class_at (Fresh u) = u.class

-- n slots of the chunk from place i on, never handed out, over the bytes of the part
abbrev pub unused_from : (chunk class : ℕ) (part : GName) (n i : ℕ) (bytes : List ℕ) → List AtHome
unused_from chunk class part zero i bs = []
unused_from chunk class part (suc n) i bs =
    Fresh (record {
      slot = record { chunk = chunk; index = i };
      class = class;
      part = part;
      bytes = take (size_of class) bs;
    })
    ∷ unused_from chunk class part n (i + 1) (drop (size_of class) bs)

-- the slots that a cursor has still to give
abbrev pub unused_of : Bump → List AtHome
unused_of b = unused_from b.chunk b.class (part_of b) (left_of b) b.next b.front.rest.now

abbrev pub unused : Option Bump → List AtHome
unused None = []
unused (Some b) = unused_of b

-- the chunk of a cursor
abbrev pub open_chunk : Option Bump → List Carved
open_chunk None = []
open_chunk (Some b) = carved_of b ∷ []

-- what the home of a class shows: its slots in any order, and all chunks that were ever claimed for it
pub record HomeState : Type 0 where
  pub owner : ℕ
  pub class : ℕ
  pub slots : List AtHome
  pub drawn : List Carved

-- a buffer as it lies at home: it is of this owner and class, and nothing of it is filled
abbrev pub LiesIn : ℕ → ℕ → Buffer → Type 0
LiesIn owner class b = (b.owner ≡ owner) × (b.class ≡ class) × (b.filled ≡ 0)

-- a buffer that may be lent as it lies, with others in a parcel: it is of this class, and nothing of it is filled
abbrev pub IsReady : ℕ → ℕ → Buffer → Type 0
IsReady owner class b = (IsPacked owner b × IsOf class b) × (b.filled ≡ 0)

-- a slot at home of this owner and class
abbrev pub IsAtHome : ℕ → ℕ → AtHome → Type 0
IsAtHome owner class (Kept b) = LiesIn owner class b
IsAtHome owner class (Fresh u) = u.class ≡ class

-- the part's chunk, drawn for the class, of which no slot was given yet
pub record IsUncut (part : Part) (class : ℕ) (c : Carved) : Type 0 where
  pub chunk : c.chunk ≡ part.chunk
  pub class_is : c.class ≡ class
  pub whole : c.whole ≡ part.bytes.ghost_name
  pub none_taken : c.taken ≡ []
  pub all_left : c.rest ≡ part.bytes.now

-- a chunk of which no slot was given yet comes to those that were drawn
pub record Draws (part : Part) (class : ℕ) (old new : List Carved) : Type 0 where
  pub drawn : Carved
  pub uncut : IsUncut part class drawn
  pub added : IsPermutation (drawn ∷ old) new

-- the buffer b is what this slot at home becomes where it is given out: nothing of it is filled
abbrev pub GivenAs : AtHome → Buffer → Type 0
GivenAs (Kept a) b = b ≡ emptied a
GivenAs (Fresh u) b =
    (b.slot ≡ u.slot) × (b.class ≡ u.class) × (b.forwards ≡ 0) × (b.filled ≡ 0) × (b.bytes.now ≡ u.bytes)

-- the chunk with one more slot taken, of this name, and what is then left of it
abbrev pub taken_next : Carved → GName → List ℕ → Carved
taken_next c name rest = record c { taken = c.taken ++ name ∷ []; rest = rest }

-- The slot u of a drawn chunk was given out as b: it is the next of its chunk, and the name of b's bytes is the
-- next of the chunk's.
pub record TakesNext (u : Unused) (b : Buffer) (old new : List Carved) : Type 0 where
  pub from : Carved
  pub rest : List ℕ
  pub others : List Carved
  pub chunk : from.chunk ≡ u.slot.chunk
  pub class_is : from.class ≡ u.class
  pub part : from.whole ≡ u.part
  pub place : length from.taken ≡ u.slot.index
  pub left : from.rest ≡ b.bytes.now ++ rest
  pub before : IsPermutation old (from ∷ others)
  pub after : IsPermutation new (taken_next from b.bytes.ghost_name rest ∷ others)

-- what the giving of a slot does to the drawn chunks: nothing where it had been given before
abbrev pub Names : AtHome → Buffer → List Carved → List Carved → Type 0
Names (Kept a) b old new = new ≡ old
Names (Fresh u) b old new = TakesNext u b old new

-- one slot at home was given out
pub record GivesOne (owner class : ℕ) (old : List AtHome) (b : Buffer) (new : List AtHome)
    (drawn drawn' : List Carved) : Type 0 where
  pub owner_is : b.owner ≡ owner
  pub class_is : b.class ≡ class
  pub from : AtHome
  pub gives : GivenAs from b
  pub others : IsPermutation old (from ∷ new)
  pub names : Names from b drawn drawn'

abbrev pub IsUnused : AtHome → Type 0
IsUnused (Kept b) = ⊥
IsUnused (Fresh u) = Unit {0}

-- why no slot is given out: none is there, or memory was refused where only slots are there that were never handed out
abbrev pub IsRefused : ℕ → List AtHome → DeskError → Type 0
IsRefused class old (NeedChunk c) = (c ≡ class) × (old ≡ [])
IsRefused class old NoMemory = (old ≢ []) × All IsUnused old
IsRefused class old e = ⊥
