-- The list of a magazine's buffers.
use Rattle.std.specs.Prelude.{◌≡◌, ◌≢◌, ◌<◌, All, List, [], Option, Some, None, Box, Vec, vec_len, vec_capacity, IsSomeAnd}
use Rattle.std.specs.List.{flat_map}
use Rattle.std.specs.declared.alloc.Global.{Global}
use Rattle.slot_chain.specs.Buffer.{Buffer}
use Rattle.slot_chain.specs.Parcels.{ParcelState}
use Rattle.slot_chain.specs.declared.portion.Portion.{Portion}
use Rattle.slot_chain.specs.declared.portion.Portion.TheVariants.{Linked, Array, Whole}

-- those that an array names, none where there is no array
abbrev pub named_in : Option (Vec Buffer Global) → List Buffer
named_in None = []
named_in (Some array) = array.items

-- the buffers of a portion
abbrev pub items_of : Portion → List Buffer
items_of (Linked chain) = chain
items_of (Array array) = array.items
items_of (Whole parcel) = parcel.items

-- the array that a portion gives: a part's own, one with the buffers and the places of a parcel, none for what is linked
abbrev pub IsArrayOf : Portion → Option (Vec Buffer Global) → Type 0
IsArrayOf (Linked chain) array = array ≡ None
IsArrayOf (Array own) array = array ≡ Some own
IsArrayOf (Whole parcel) array = IsSomeAnd array
    (λ (a : Vec Buffer Global). (a.items ≡ parcel.items) × (vec_capacity a ≡ parcel.places))

-- there is an array, and a place in it
abbrev pub HasPlace : Option (Vec Buffer Global) → Type 0
HasPlace None = ⊥
HasPlace (Some array) = vec_len array < vec_capacity array

-- the array is filled before anything is linked
abbrev pub IsFilled : Option (Vec Buffer Global) → List Buffer → Type 0
IsFilled array linked = HasPlace array → linked ≡ []

-- the parcels that came as a whole, none where there is no room for any
abbrev pub parcels_in : Option (Box (Vec ParcelState Global) Global) → List ParcelState
parcels_in None = []
parcels_in (Some parcels) = parcels.value.items

-- the buffers of parcels, one parcel after the other
abbrev pub packed_in : List ParcelState → List Buffer
packed_in parcels = flat_map (λ (p : ParcelState). p.items) parcels

-- none of the parcels is empty
abbrev pub AreFilled : List ParcelState → Type 0
AreFilled parcels = All (λ (p : ParcelState). p.items ≢ []) parcels
