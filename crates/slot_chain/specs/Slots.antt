-- Lists of slots.
use Rattle.std.specs.Prelude.{◌≡◌, ◌++◌, List, IsPermutation}
use Rattle.region_cut.specs.declared.slot.Slot.{Slot}
use Rattle.slot_chain.specs.Buffer.{Buffer}

-- the slot of a buffer
abbrev pub slot_of : Buffer → Slot
slot_of b = b.slot

-- these slots were added at the end, in any order, each as often as it is there
pub record AddsSlots (slots old new : List Slot) : Type 0 where
  pub added : List Slot
  pub appended : new ≡ old ++ added
  pub each : IsPermutation slots added
