-- Where a slot is, by the name of the list that it is in.
use Rattle.std.proofs.Common.{◌≡◌, ℕ, Bool, true, false, ◌==◌, List, [], get_or, flat_map, option_map, if◌then◌else◌, All, Option, Some, None}
use Rattle.region_cut.specs.declared.slot.Slot.{Slot}
use Rattle.pool_machine.specs.declared.request.Request.{Request}
use Rattle.region_cut.specs.Slots.{times}
use Rattle.pool_machine.specs.Slots.{one_if}
use Rattle.pool_machine.specs.State.{State, owner_of, Place, AtHome, OnLoan, InCache, InBatch}
use Rattle.pool_machine.specs.Steps.{Answer, Step}
use Rattle.pool_machine.specs.Forwards.{counted}
use Rattle.pool_machine.specs.Sound.{Sound}
use Rattle.pool_machine.specs.Listing.{Listing, BatchListing, desk_listing, slots_seen, Labelled, Counted, ShowsFrame}

-- the inbox of a desk
abbrev pub inbox_listing : Listing → ℕ → List BatchListing
inbox_listing v b = get_or v.inboxes b []

-- a list of a floor: the slots at home with a desk, the lent buffers, a desk's cache, or a batch
pub data ListName : Type 0 where
  HomeOf : (desk : ℕ) → ListName
  Loans : ListName
  CacheOf : (desk : ℕ) → ListName
  BatchOf : (number : ℕ) → ListName

-- the two are the same list
abbrev pub same_list : ListName → ListName → Bool
same_list (HomeOf a) (HomeOf b) = a == b
same_list Loans Loans = true
same_list (CacheOf a) (CacheOf b) = a == b
same_list (BatchOf m) (BatchOf n) = m == n
same_list _ _ = false

-- the list in which a slot of this owner is, at this place
abbrev pub list_at : ℕ → Place → ListName
list_at owner AtHome = HomeOf owner
list_at owner OnLoan = Loans
list_at owner (InCache a) = CacheOf a
list_at owner (InBatch n) = BatchOf n

-- the list that the machine names for the slot
abbrev pub list_of : State → Slot → Option ListName
list_of st s = option_map (list_at (owner_of st s)) (st.place s)

-- l is the list that is named, where one is
abbrev pub is_list : ListName → Option ListName → Bool
is_list l None = false
is_list l (Some m) = same_list l m

-- the slots of a batch, where it has the number n
abbrev pub if_numbered : ℕ → BatchListing → List Slot
if_numbered n w = if n == w.batch.number then slots_seen w.buffers else []

-- the slots of the list of this name
abbrev pub slots_in : Listing → ListName → List Slot
slots_in v (HomeOf a) = slots_seen (desk_listing v a).home
slots_in v Loans = slots_seen v.lent
slots_in v (CacheOf a) = slots_seen (desk_listing v a).cache
slots_in v (BatchOf n) = flat_map (λ ws. flat_map (if_numbered n) ws) v.inboxes

-- each slot is once in the list that the machine names for it, and in no other
abbrev pub InPlace : Listing → State → Type 0
InPlace v st = (l : ListName) (s : Slot) → times s (slots_in v l) ≡ one_if (is_list l (list_of st s))

-- the same of a sound state: what each step of a floor is proved to keep
pub record Located (v : Listing) (st : State) (count : Slot → ℕ) : Type 0 where
  pub sound : Sound st count
  pub frame : ShowsFrame v st
  pub in_place : InPlace v st
  pub homes : (a : ℕ) → All (Labelled st) (desk_listing v a).home
  pub lent : All (Labelled st) v.lent
  pub cached : (a : ℕ) → All (Counted st count) (desk_listing v a).cache
  pub queued : (b : ℕ) → All (λ (w : BatchListing). All (Counted st count) w.buffers) (inbox_listing v b)

-- one request is one step of the machine, from each state in which the slots are where the old lists have them
abbrev pub LocatedStep : Listing → Request → Answer → Listing → Type 0
LocatedStep old q y new = (st : State) (count : Slot → ℕ) → Located old st count →
    (next : State) × Step st q y next × Located new next (λ s. counted st q y s (count s))
