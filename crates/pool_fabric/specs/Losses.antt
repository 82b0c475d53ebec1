-- What can be wrong where no slot was freed more often than it was lent.
use Rattle.std.specs.Prelude.{◌≡◌, ℕ, ◌<◌, ◌≤◌, ◌==◌, List, map, if◌then◌else◌, Option, Result, Ok, Err}
use Rattle.region_cut.specs.declared.slot.Slot.{Slot}
use Rattle.region_cut.specs.Slots.{times}
use Rattle.slot_chain.specs.Buffer.{Buffer}
use Rattle.slot_chain.specs.Slots.{slot_of}
use Rattle.slot_audit.specs.Audit.{IsDrawnSlot}
use Rattle.slot_audit.specs.declared.fault.Fault.{Fault}
use Rattle.slot_audit.specs.declared.fault.Fault.TheVariants.{Stranger, Doubled, Missing, NoMemory}
use Rattle.slot_balance.specs.Weights.{weigh}

-- 1 where the numbers are the same
abbrev pub is_number : ℕ → ℕ → ℕ
is_number k n = if n == k then 1 else 0

-- no number is there twice
abbrev pub AreOnce : List ℕ → Type 0
AreOnce numbers = (k : ℕ) → weigh (is_number k) numbers ≤ 1

-- each slot of a drawn chunk is found at most once, and no other slot is found
pub record FindsAtMostOnce (drawn : List (Option ℕ)) (found : List Slot) : Type 0 where
  pub once : (s : Slot) → times s found ≤ 1
  pub no_other : (s : Slot) → (IsDrawnSlot drawn s → ⊥) → times s found ≡ 0

-- how often the buffers have the slot
abbrev pub times_among : Slot → List Buffer → ℕ
times_among s bs = times s (map slot_of bs)

-- No slot is a stranger, and none is there twice. A slot that is missing was lent more often than it was freed.
abbrev pub TellsLosses : List Buffer → List Buffer → Result (Unit {0}) Fault → Type 0
TellsLosses lent freed (Ok u) = Unit {0}
TellsLosses lent freed (Err NoMemory) = Unit {0}
TellsLosses lent freed (Err (Missing s)) = times_among s freed < times_among s lent
TellsLosses lent freed (Err (Stranger s)) = ⊥
TellsLosses lent freed (Err (Doubled s)) = ⊥

-- all is well, or the audit had no memory
abbrev pub TellsNone : Result (Unit {0}) Fault → Type 0
TellsNone (Ok u) = Unit {0}
TellsNone (Err NoMemory) = Unit {0}
TellsNone (Err (Missing s)) = ⊥
TellsNone (Err (Stranger s)) = ⊥
TellsNone (Err (Doubled s)) = ⊥
