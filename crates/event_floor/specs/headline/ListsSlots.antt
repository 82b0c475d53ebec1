-- The lists of slots that a floor's calls give are those that the machine has there.
use Rattle.std.specs.Prelude.{ℕ, ◌≡◌, List, ◌++◌, map, flat_map, option_map, IsPermutation}
use Rattle.std.specs.List.{range_with_len}
use Rattle.region_cut.specs.declared.slot.Slot.{Slot}
use Rattle.slot_chain.specs.Slots.{slot_of}
use Rattle.pool_desk.specs.Homes.{slot_at}
use Rattle.pool_machine.specs.declared.chunk.DrawnChunk.{DrawnChunk}
use Rattle.pool_machine.specs.Slots.{ListsEachSlot}
use Rattle.pool_machine.specs.State.{State, OnLoan, InCache, slots_at}
use Rattle.pool_machine.specs.Listing.{Shown}
use Rattle.pool_machine.specs.SlotLists.{home_slots, queued_slots}
use Rattle.event_floor.specs.Chunks.{class_drawn}
use Rattle.event_floor.specs.Floors.{FloorState, desk_at, desk_count}
use Rattle.event_floor.specs.Lent.{buffers_lent}
use Rattle.event_floor.specs.Inboxes.{buffers_in, inbox_at}
use Rattle.event_floor.specs.Desks.{home_of, cached_of}
use Rattle.event_floor.specs.headline.Listing.{listing_of}

-- the slots at home with desk a, those in its cache, and those of the batches that wait for it
abbrev pub slots_with : FloorState → ℕ → List Slot
slots_with v a = map slot_at (home_of (desk_at v a)) ++ (map slot_of (cached_of (desk_at v a))
    ++ map slot_of (buffers_in (inbox_at v.inboxes a)))

-- the lent slots, and those with each desk
abbrev pub slots_on : FloorState → List Slot
slots_on v = map slot_of (buffers_lent v.lent) ++ flat_map (slots_with v) (range_with_len 0 (desk_count v))

-- What `Floor::home`, `cached`, `queued`, `lent` and `class_of` answer is the state's, and all these lists joined have
-- each slot of a drawn chunk once, and no other slot.
pub record ListsSlots (v : FloorState) (st : State) : Type 0 where
  pub home : (a : ℕ) → IsPermutation (map slot_at (home_of (desk_at v a))) (home_slots st a)
  pub cached : (a : ℕ) → IsPermutation (map slot_of (cached_of (desk_at v a))) (slots_at st (InCache a))
  pub queued : (a : ℕ) → IsPermutation (map slot_of (buffers_in (inbox_at v.inboxes a))) (queued_slots st a)
  pub lent : IsPermutation (map slot_of (buffers_lent v.lent)) (slots_at st OnLoan)
  pub class : (k : ℕ) → class_drawn v.drawn k ≡ option_map (λ (d : DrawnChunk). d.class) (st.drawn k)
  pub once : ListsEachSlot (slots_on v) st.drawn

-- so it is of each state that a floor shows
abbrev pub FloorsListSlots : Type 0
FloorsListSlots = (v : FloorState) (st : State) (count : Slot → ℕ) → Shown (listing_of v) st count → ListsSlots v st
