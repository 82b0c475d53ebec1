-- The slots of drawn chunks.
use Rattle.std.specs.Prelude.{◌≡◌, ℕ, Bool, false, nat_lt, cond, List, Option, Some, None}
use Rattle.region_cut.specs.declared.slot.Slot.{Slot}
use Rattle.region_cut.specs.Slots.{times}
use Rattle.region_cut.specs.Classes.{slots_of}
use Rattle.pool_machine.specs.declared.chunk.DrawnChunk.{DrawnChunk}

-- the chunk is drawn, and has a slot at this place
abbrev pub has_index : ℕ → Option DrawnChunk → Bool
has_index i None = false
has_index i (Some d) = nat_lt i (slots_of d.class)

-- the slot is one of a drawn chunk
abbrev pub is_drawn_slot : (ℕ → Option DrawnChunk) → Slot → Bool
is_drawn_slot drawn s = has_index s.index (drawn s.chunk)

-- 1 where it holds, else 0
abbrev pub one_if : Bool → ℕ
one_if b = cond b 1 0

-- the list has each slot of a drawn chunk once, and no other slot
abbrev pub ListsEachSlot : List Slot → (ℕ → Option DrawnChunk) → Type 0
ListsEachSlot found drawn = (s : Slot) → times s found ≡ one_if (is_drawn_slot drawn s)
