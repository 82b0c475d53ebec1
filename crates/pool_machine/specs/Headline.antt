-- What a floor does is what the machine does.
use Rattle.std.specs.Prelude.{ℕ, List, ◌++◌, flat_map, IsPermutation}
use Rattle.region_cut.specs.declared.slot.Slot.{Slot}
use Rattle.pool_machine.specs.declared.request.Request.{Request}
use Rattle.pool_machine.specs.State.{State, slots}
use Rattle.pool_machine.specs.Steps.{Answer, Step, Run}
use Rattle.pool_machine.specs.Forwards.{counted, forwards}
use Rattle.pool_machine.specs.Listing.{Listing, DeskListing, BatchListing, slots_seen, Shown}

-- all lists of a floor joined: homes, lent buffers, caches and batches
abbrev pub joined : Listing → List Slot
joined v = flat_map (λ (d : DeskListing). slots_seen d.home) v.desks ++ (slots_seen v.lent
    ++ (flat_map (λ (d : DeskListing). slots_seen d.cache) v.desks
    ++ flat_map (λ ws. flat_map (λ (w : BatchListing). slots_seen w.buffers) ws) v.inboxes))

-- ---- one request

-- The answer is one step, and the new lists show the state that it leads to, in which each slot was passed on as often
-- as the step tells. All lists joined are the slots of the drawn chunks, each once.
pub record AppliesAt (st : State) (count : Slot → ℕ) (request : Request) (answer : Answer) (new : Listing)
    (next : State) : Type 0 where
  pub step : Step st request answer next
  pub shown : Shown new next (λ s. counted st request answer s (count s))
  pub once : IsPermutation (joined new) (slots next)

-- so it is from each state that the floor shows before
abbrev pub Applies : Listing → Request → Answer → Listing → Type 0
Applies old request answer new = (st : State) (count : Slot → ℕ) → Shown old st count →
    (next : State) × AppliesAt st count request answer new next

-- a list of requests is a run
abbrev pub AppliesAll : Listing → List Request → List Answer → Listing → Type 0
AppliesAll old qs ys new = (st : State) (count : Slot → ℕ) → Shown old st count →
    (end : State) × Run st qs ys end × Shown new end (λ s. forwards st qs ys s (count s))

-- the lists show some state that a run leads to
abbrev pub ShowsSome : Listing → Type 0
ShowsSome v = (st : State) × (count : Slot → ℕ) × Shown v st count

-- ---- the headline

-- The answers are a run, and the new lists show the state that it leads to, in which each slot was passed on as often
-- as the run tells: a caller may go on from there. All lists joined are the slots of the drawn chunks, each once.
pub record HeadlineAt (st : State) (count : Slot → ℕ) (requests : List Request) (answers : List Answer) (new : Listing)
    (end : State) : Type 0 where
  pub run : Run st requests answers end
  pub shown : Shown new end (λ s. forwards st requests answers s (count s))
  pub once : IsPermutation (joined new) (slots end)

-- so it is from each state that the floor shows before
abbrev pub Headline : Listing → List Request → List Answer → Listing → Type 0
Headline old requests answers new = (st : State) (count : Slot → ℕ) → Shown old st count →
    (end : State) × HeadlineAt st count requests answers new end
