-- A table that counts slots. Only private functions and the invariant of `Drawn` speak of it.
use Rattle.std.specs.Prelude.{ℕ, ◌≡◌, ◌≤◌, ◌+◌, ◌*◌, List, Option, length, slice_index, min}
use Rattle.region_cut.specs.declared.slot.Slot.{Slot}
use Rattle.region_cut.specs.Slots.{times}
use Rattle.region_cut.specs.Limits.{chunk_limit}
use Rattle.slot_audit.specs.Audit.{slot_count_in, IsDrawnSlot}
use Rattle.slot_audit.specs.Limits.{slot_limit}

-- 1,024 chunks, of which none has more than 256 slots: so a table of 256 places for each chunk has one for each slot
pub record FitsTable (drawn : List (Option ℕ)) : Type 0 where
  pub chunks : length drawn ≡ chunk_limit
  pub few : (k : ℕ) → slot_count_in drawn k ≤ slot_limit

-- what the table says of the slot
abbrev pub count_at : List ℕ → Slot → ℕ
count_at table s = slice_index table (s.chunk * slot_limit + s.index)

-- the table has, for each slot of a drawn chunk, how often it occurs, or 2 where that is more
abbrev pub IsTally : List (Option ℕ) → List Slot → List ℕ → Type 0
IsTally drawn found table = (s : Slot) → IsDrawnSlot drawn s → count_at table s ≡ min 2 (times s found)

-- the slot is one of a drawn chunk, and has this count
abbrev pub HasCount : List (Option ℕ) → List ℕ → ℕ → Slot → Type 0
HasCount drawn table count s = IsDrawnSlot drawn s × (count_at table s ≡ count)
