-- Lists of slots.
use Rattle.std.specs.Prelude.{◌≡◌, ℕ, zero, suc, ◌+◌, List, [], ◌∷◌, ◌++◌, IsPermutation, map, OnOk, Result}
use Rattle.region_cut.specs.declared.slot.Slot.{Slot}
use Rattle.slot_chain.specs.Buffer.{Buffer}
use Rattle.slot_chain.specs.Slots.{slot_of}
use Rattle.pool_desk.specs.Homes.{AtHome, slot_at}

-- the slots at home and in a cache
abbrev pub slots_in : List AtHome → List Buffer → List Slot
slots_in home cached = map slot_at home ++ map slot_of cached

-- these slots were added at the end, each as often as it is there, or some of them where the call was refused
pub record AddsOn {T E : Type 0} (r : Result T E) (slots old new : List Slot) : Type 0 where
  pub added : List Slot
  pub appended : new ≡ old ++ added
  pub each : OnOk r (IsPermutation slots added)

-- n slots of a chunk from place i on
abbrev pub places : (chunk n i : ℕ) → List Slot
places chunk zero i = []
places chunk (suc n) i = record { chunk = chunk; index = i } ∷ places chunk n (i + 1)
