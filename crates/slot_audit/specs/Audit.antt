-- What an audit looks for: each slot of a drawn chunk once, and no other.
use Rattle.std.specs.Prelude.{ℕ, ◌≡◌, ◌<◌, List, slice_index_or, Option, Some, None}
use Rattle.region_cut.specs.Classes.{slots_of}
use Rattle.region_cut.specs.declared.slot.Slot.{Slot}
use Rattle.region_cut.specs.Slots.{IsBefore, times}
use Rattle.slot_audit.specs.declared.fault.Fault.{Fault}
use Rattle.slot_audit.specs.declared.fault.Fault.TheVariants.{Stranger, Doubled, Missing, NoMemory}

-- the class that a chunk is drawn for
abbrev pub class_noted : List (Option ℕ) → ℕ → Option ℕ
class_noted drawn chunk = slice_index_or drawn chunk None

-- how many slots a chunk of the class has; none where there is no class
abbrev pub slots_for : Option ℕ → ℕ
slots_for None = 0
slots_for (Some class) = slots_of class

-- how many slots the chunk has; none where it isn't drawn
abbrev pub slot_count_in : List (Option ℕ) → ℕ → ℕ
slot_count_in drawn chunk = slots_for (class_noted drawn chunk)

-- the slot is one of a drawn chunk
abbrev pub IsDrawnSlot : List (Option ℕ) → Slot → Type 0
IsDrawnSlot drawn s = s.index < slot_count_in drawn s.chunk

-- each slot of a drawn chunk occurs once, and no other occurs
pub record FindsEachSlot (drawn : List (Option ℕ)) (found : List Slot) : Type 0 where
  pub all : (s : Slot) → IsDrawnSlot drawn s → times s found ≡ 1
  pub no_other : (s : Slot) → (IsDrawnSlot drawn s → ⊥) → times s found ≡ 0

-- what may be wrong with a slot

abbrev pub IsStranger : List (Option ℕ) → List Slot → Slot → Type 0
IsStranger drawn found s = (IsDrawnSlot drawn s → ⊥) × (0 < times s found)

abbrev pub IsDoubled : List (Option ℕ) → List Slot → Slot → Type 0
IsDoubled drawn found s = IsDrawnSlot drawn s × (1 < times s found)

abbrev pub IsMissing : List (Option ℕ) → List Slot → Slot → Type 0
IsMissing drawn found s = IsDrawnSlot drawn s × (times s found ≡ 0)

-- P holds of the slot and of none before it
abbrev pub IsLeast : (Slot → Type 0) → Slot → Type 0
IsLeast P s = P s × ((t : Slot) → IsBefore t s → P t → ⊥)

-- P holds of no slot
abbrev pub IsNowhere : (Slot → Type 0) → Type 0
IsNowhere P = (s : Slot) → P s → ⊥

-- the fault is there, and no fault of a lesser number
abbrev pub IsFault : List (Option ℕ) → List Slot → Fault → Type 0
IsFault drawn found (Stranger s) = IsLeast (IsStranger drawn found) s
IsFault drawn found (Doubled s) = IsNowhere (IsStranger drawn found) × IsLeast (IsDoubled drawn found) s
IsFault drawn found (Missing s) = IsNowhere (IsStranger drawn found) × IsNowhere (IsDoubled drawn found)
    × IsLeast (IsMissing drawn found) s
IsFault drawn found NoMemory = Unit {0}

abbrev pub fault_number : Fault → ℕ
fault_number (Stranger s) = 1
fault_number (Doubled s) = 2
fault_number (Missing s) = 3
fault_number NoMemory = 4
