-- Arrays that are kept.
use Rattle.std.specs.Prelude.{◌≡◌, ◌≢◌, ℕ, ◌≤◌, [], All, List, Option, Some, None, Vec, length, slice_get, vec_capacity}
use Rattle.std.specs.declared.alloc.Global.{Global}
use Rattle.slot_chain.specs.Buffer.{Buffer}
use Rattle.slot_chain.specs.Parcels.{ParcelState}

-- a parcel with so many places, and with a buffer in at most n of them
pub record IsFitting (n places : ℕ) (p : ParcelState) : Type 0 where
  pub some : p.items ≢ []
  pub most : length p.items ≤ n
  pub places_are : p.places ≡ places

-- the arrays that are kept, none where there is no place for any
abbrev pub arrays_in : Option (Vec (Vec Buffer Global) Global) → List (Vec Buffer Global)
arrays_in None = []
arrays_in (Some arrays) = arrays.items

-- none of the arrays names a buffer
abbrev pub AreEmptied : List (Vec Buffer Global) → Type 0
AreEmptied arrays = All (λ (a : Vec Buffer Global). a.items ≡ []) arrays

-- at k there is an array with room for n buffers
pub record RoomAt (n k : ℕ) (arrays : List (Vec Buffer Global)) : Type 0 where
  pub array : Vec Buffer Global
  pub there : slice_get arrays k ≡ Some array
  pub room : n ≤ vec_capacity array
