-- What the laws tell of a floor of which only its type is known.
use Rattle.std.proofs.Common.{ℕ, ◌≤◌, Result, Ok, Err, IfOk}
use Rattle.region_cut.specs.declared.slot.Slot.{Slot}
use Rattle.event_floor.specs.Floors.{FloorState}
use Rattle.event_floor.specs.headline.Headline.{Shows}
use Rattle.event_floor.specs.headline.Listing.{listing_of}
use Rattle.event_floor.specs.headline.ListsSlots.{FloorsListSlots, ListsSlots}
use Rattle.event_floor.specs.headline.TellsCounts.{FloorsTellCounts, TellsCounts}
use Rattle.pool_machine.specs.Listing.{Shown}
use Rattle.pool_machine.specs.State.{State}

pub counts_told : FloorsTellCounts → (v : FloorState) → v.chunks ≤ 1024 → Shows v → (st : State) × (passed : Slot → ℕ) × Shown (listing_of v) st passed × TellsCounts v st
unfolding Shows
counts_told law v few s = (s.0, s.1, s.2, law v s.0 s.1 few s.2)

pub slots_told : FloorsListSlots → (v : FloorState) → Shows v → (st : State) × (passed : Slot → ℕ) × Shown (listing_of v) st passed × ListsSlots v st
unfolding Shows
slots_told law v s = (s.0, s.1, s.2, law v s.0 s.1 s.2)

pub if_ok : {A E : Type 0} {P Q : A → Type 0} (r : Result A E) → ((x : A) → P x → Q x) → IfOk r P → IfOk r Q
if_ok (Ok x) f h = f x h
if_ok (Err e) f h = h
