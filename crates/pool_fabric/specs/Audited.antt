-- What is audited, and the answer.
use Rattle.std.specs.Prelude.{ℕ, List, [], ◌∷◌, ◌++◌, map, IsPermutation, Option, Result, Ok, Err}
use Rattle.region_cut.specs.declared.slot.Slot.{Slot}
use Rattle.digit_route.specs.States.{BatchState}
use Rattle.pool_desk.specs.Desks.{DeskState, IdleState}
use Rattle.pool_desk.specs.Slots.{slots_in}
use Rattle.slot_chain.specs.Slots.{slot_of}
use Rattle.slot_audit.specs.Audit.{FindsEachSlot, IsFault}
use Rattle.slot_audit.specs.declared.fault.Fault.{Fault}
use Rattle.slot_audit.specs.declared.fault.Fault.TheVariants.{NoMemory}

-- the slots that one desk or batch has
abbrev pub idle_slots : IdleState → List Slot
idle_slots d = slots_in d.home []

abbrev pub held_slots : DeskState → List Slot
held_slots d = slots_in d.home d.cached

abbrev pub batch_slots : BatchState → List Slot
batch_slots b = map slot_of b.items

-- all that is listed of several
abbrev pub listed : {A : Type 0} → (A → List Slot) → List A → List Slot
listed f [] = []
listed f (x ∷ xs) = f x ++ listed f xs

-- the slots of all desks and of all batches that were still in an inbox
abbrev pub slots_found : List DeskState → List BatchState → List Slot
slots_found desks batches = listed held_slots desks ++ listed batch_slots batches

-- the answer of an audit of these slots, in some order
pub record IsAnswer (slots : List Slot) (drawn : List (Option ℕ)) (P : List Slot → Type 0) : Type 0 where
  pub found : List Slot
  pub each : IsPermutation slots found
  pub is : P found

-- Ok: each slot of a drawn chunk is found once, and no other is.
-- A fault but want of memory is there, and none of a lesser number.
abbrev pub Audited : List Slot → List (Option ℕ) → Result (Unit {0}) Fault → Type 0
Audited slots drawn (Ok u) = IsAnswer slots drawn (λ found. FindsEachSlot drawn found)
Audited slots drawn (Err NoMemory) = Unit {0}
Audited slots drawn (Err f) = IsAnswer slots drawn (λ found. IsFault drawn found f)
