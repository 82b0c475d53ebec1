-- What a contract sees of a parcel.
use Rattle.std.specs.Prelude.{◌≡◌, ◌≢◌, ℕ, ◌^◌, ◌<◌, ◌≤◌, ◌⊎◌, List, [], ◌∷◌, ◌++◌, length, map, Some, slice_get, slice_set}
use Rattle.slot_chain.specs.Buffer.{Buffer}
use Rattle.slot_chain.specs.Filling.{emptied}

-- buffers of one allocator, and for how many there is a place
pub record ParcelState : Type 0 where
  pub owner : ℕ
  pub places : ℕ
  pub items : List Buffer

-- for how many buffers there is a place at most
abbrev pub most_places : ℕ
most_places = 2 ^ 50

-- the allocator's buffer, as it is freed
abbrev pub IsPacked : ℕ → Buffer → Type 0
IsPacked owner b = (b.owner ≡ owner) × (b.forwards ≡ 0)

-- the buffer is of this class
abbrev pub IsOf : ℕ → Buffer → Type 0
IsOf class b = b.class ≡ class

-- the buffer as it lies in a parcel: it was not passed on, and all else is the same
abbrev pub unforwarded : Buffer → Buffer
unforwarded b = record b { forwards = 0 }

-- the buffer comes to the end
abbrev pub Packs : ParcelState → Buffer → ParcelState → Type 0
Packs old b new =
    (b.owner ≡ old.owner) × (length old.items < old.places)
    × (new ≡ record old { items = old.items ++ unforwarded b ∷ [] })

-- why a buffer doesn't come into it: it is another allocator's, or there is no place
abbrev pub KeepsOut : ParcelState → Buffer → Type 0
KeepsOut p b = (b.owner ≢ p.owner) ⊎ (p.places ≤ length p.items)

-- nothing is filled any more of some of its buffers, and all else is as before
abbrev pub EmptiesSome : ParcelState → ParcelState → Type 0
EmptiesSome old new = (new ≡ record old { items = new.items }) × (map emptied new.items ≡ map emptied old.items)

-- the buffer at place i became another, which `edits` tells, and the others are as before
pub record EditsAt (i : ℕ) (edits : Buffer → Buffer → Type 0) (old new : ParcelState) : Type 0 where
  pub before : Buffer
  pub after : Buffer
  pub there : slice_get old.items i ≡ Some before
  pub edited : edits before after
  pub same : new ≡ record old { items = slice_set old.items i after }
