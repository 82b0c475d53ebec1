-- What a floor's calls count is what the machine counts.
use Rattle.std.specs.Prelude.{ℕ, ◌≡◌, ◌≤◌, length}
use Rattle.region_cut.specs.Limits.{chunk_limit}
use Rattle.region_cut.specs.declared.slot.Slot.{Slot}
use Rattle.slot_chain.specs.Counts.{capped}
use Rattle.event_floor.specs.Floors.{FloorState, desk_at}
use Rattle.event_floor.specs.Inboxes.{buffers_in, inbox_at}
use Rattle.event_floor.specs.Lent.{buffers_lent}
use Rattle.event_floor.specs.Desks.{home_of, cached_of}
use Rattle.pool_machine.specs.State.{State, OnLoan, InCache, slots_at}
use Rattle.pool_machine.specs.Listing.{Shown}
use Rattle.pool_machine.specs.SlotLists.{home_slots, queued_slots, drawn_count}
use Rattle.event_floor.specs.headline.Listing.{listing_of}

-- the answers of `Floor::counts`, `lent_count` and `drawn_count` are the state's
pub record TellsCounts (v : FloorState) (st : State) : Type 0 where
  pub home : (a : ℕ) → capped (length (home_of (desk_at v a))) ≡ length (home_slots st a)
  pub cached : (a : ℕ) → capped (length (cached_of (desk_at v a))) ≡ length (slots_at st (InCache a))
  pub queued : (a : ℕ) → capped (length (buffers_in (inbox_at v.inboxes a))) ≡ length (queued_slots st a)
  pub lent : length (buffers_lent v.lent) ≡ length (slots_at st OnLoan)
  pub drawn : length v.drawn ≡ drawn_count st

-- so it is of each state that a floor shows
abbrev pub FloorsTellCounts : Type 0
FloorsTellCounts = (v : FloorState) (st : State) (count : Slot → ℕ) → v.chunks ≤ chunk_limit
    → Shown (listing_of v) st count → TellsCounts v st
