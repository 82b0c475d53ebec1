-- What an audit of a floor goes over: the slots of all its lists, and its drawn chunks.
use Rattle.std.specs.Prelude.{ℕ, ◌≡◌, ◌<◌, ◌≤◌, List, Option, None, Ok, Err, IsPermutation}
use Rattle.region_cut.specs.Limits.{chunk_limit}
use Rattle.region_cut.specs.declared.slot.Slot.{Slot}
use Rattle.pool_machine.specs.State.{State}
use Rattle.pool_machine.specs.Listing.{Shown}
use Rattle.event_floor.specs.Chunks.{class_drawn}
use Rattle.event_floor.specs.Floors.{FloorState}
use Rattle.event_floor.specs.headline.Listing.{listing_of}
use Rattle.event_floor.specs.headline.ListsSlots.{slots_on}
use Rattle.slot_audit.specs.Audit.{FindsEachSlot, IsFault, class_noted}
use Rattle.slot_audit.specs.declared.fault.Fault.{Fault}
use Rattle.trace_audit.specs.Report.{Verdict}

-- of each chunk of a region, the class that the floor drew it for
pub record TellsDrawn (v : FloorState) (drawn : List (Option ℕ)) : Type 0 where
  pub classes : (k : ℕ) → k < chunk_limit → class_noted drawn k ≡ class_drawn v.drawn k
  pub no_more : (k : ℕ) → chunk_limit ≤ k → class_noted drawn k ≡ None

-- the homes, the caches, the inboxes and the lent buffers, joined, have each slot of a drawn chunk once, and no other
-- slot
abbrev pub HasEachOnce : FloorState → Type 0
HasEachOnce v = (drawn : List (Option ℕ)) × TellsDrawn v drawn × FindsEachSlot drawn (slots_on v)

-- the fault is there, in some order of these slots
abbrev pub IsFaultOn : FloorState → Fault → Type 0
IsFaultOn v fault = (drawn : List (Option ℕ)) × (found : List Slot) × TellsDrawn v drawn
    × IsPermutation (slots_on v) found × IsFault drawn found fault

-- the verdict is so of the floor's lists
abbrev pub IsVerdictOn : FloorState → Verdict → Type 0
IsVerdictOn v (Ok u) = HasEachOnce v
IsVerdictOn v (Err fault) = IsFaultOn v fault

-- the floor shows a state of a pool that has no more chunks than a region
pub record ShowsPool (v : FloorState) : Type 0 where
  pub state : State
  pub passed : Slot → ℕ
  pub shown : Shown (listing_of v) state passed
  pub few_chunks : v.chunks ≤ chunk_limit
