-- What the machine speaks of in a floor: its lists of slots, and how they show a state.
use Rattle.std.specs.Prelude.{◌≡◌, ℕ, List, [], map, length, slice_get, slice_index_or, All, Option, None}
use Rattle.std.specs.Prelude.{IsPermutation}
use Rattle.region_cut.specs.declared.slot.Slot.{Slot}
use Rattle.digit_route.specs.Digits.{Scheme}
use Rattle.pool_machine.specs.declared.chunk.DrawnChunk.{DrawnChunk}
use Rattle.pool_machine.specs.State.{State, Waiting, OnLoan, InCache, InBatch, owner_of, class_of, inbox, slots_at}
use Rattle.pool_machine.specs.SlotLists.{home_slots}
use Rattle.pool_machine.specs.Reached.{IsReached}

-- a buffer, or a slot at home that was never handed out, without its bytes
pub record Entry : Type 0 where
  pub slot : Slot
  pub class : ℕ
  pub owner : ℕ
  pub forwards : ℕ

-- a desk: its worker, its slots at home, and its cache
pub record DeskListing : Type 0 where
  pub worker : Option ℕ
  pub home : List Entry
  pub cache : List Entry

-- a batch in an inbox
pub record BatchListing : Type 0 where
  pub batch : Waiting
  pub buffers : List Entry

-- a floor: the drawn chunks are the first ones, in order; the desks and their inboxes stand by their numbers
pub record Listing : Type 0 where
  pub digits : Scheme
  pub limit : ℕ
  pub chunks : ℕ
  pub drawn : List DrawnChunk
  pub desks : List DeskListing
  pub lent : List Entry
  pub inboxes : List (List BatchListing)
  pub next : ℕ

-- an idle desk with nothing at home
abbrev pub empty_desk : DeskListing
empty_desk = record { worker = None; home = []; cache = [] }

-- the desk of a number
abbrev pub desk_listing : Listing → ℕ → DeskListing
desk_listing v a = slice_index_or v.desks a empty_desk

-- ---- the state that a floor shows

-- the slots of a list
abbrev pub slots_seen : List Entry → List Slot
slots_seen xs = map (λ (e : Entry). e.slot) xs

-- the owner and the class of the entry are those of its slot
abbrev pub Labelled : State → Entry → Type 0
Labelled st e = (e.owner ≡ owner_of st e.slot) × (e.class ≡ class_of st e.slot)

-- and its count is how often its slot was passed on
abbrev pub Counted : State → (Slot → ℕ) → Entry → Type 0
Counted st count e = (e.owner ≡ owner_of st e.slot) × (e.class ≡ class_of st e.slot) × (e.forwards ≡ count e.slot)

-- the numbers, the chunks, the workers, and the inboxes with their batches in order are the state's
pub record ShowsFrame (v : Listing) (st : State) : Type 0 where
  pub digits : v.digits ≡ st.digits
  pub limit : v.limit ≡ st.limit
  pub next : v.next ≡ st.next
  pub desks : length v.desks ≡ st.desks
  pub inbox_count : length v.inboxes ≡ st.desks
  pub chunks : v.chunks ≡ st.chunks
  pub drawn : (k : ℕ) → slice_get v.drawn k ≡ st.drawn k
  pub holder : (a : ℕ) → (desk_listing v a).worker ≡ st.holder a
  pub inboxes : (b : ℕ) → map (λ (w : BatchListing). w.batch) (slice_index_or v.inboxes b []) ≡ inbox st b

-- the list has these slots, each as often as it is there, and this holds of each entry
abbrev pub HasSlots : (Entry → Type 0) → List Entry → List Slot → Type 0
HasSlots P entries slots = IsPermutation (slots_seen entries) slots × All P entries

-- The floor's lists show this state, which a run of a new pool leads to: each list has the slots that the state has
-- there, each once, with their owners and classes; in a cache or a batch also with how often they were passed on.
pub record Shown (v : Listing) (st : State) (count : Slot → ℕ) : Type 0 where
  pub reached : IsReached st count
  pub frame : ShowsFrame v st
  pub homes : (a : ℕ) → HasSlots (Labelled st) (desk_listing v a).home (home_slots st a)
  pub lent : HasSlots (Labelled st) v.lent (slots_at st OnLoan)
  pub caches : (a : ℕ) → HasSlots (Counted st count) (desk_listing v a).cache (slots_at st (InCache a))
  pub batches : (b : ℕ) → All (λ (w : BatchListing).
      HasSlots (Counted st count) w.buffers (slots_at st (InBatch w.batch.number))) (slice_index_or v.inboxes b [])
