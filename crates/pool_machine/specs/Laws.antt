-- What the laws of the machine say.
use Rattle.std.specs.Prelude.{◌≡◌, ℕ, ◌^◌, ◌≤◌, List, Err}
use Rattle.region_cut.specs.declared.slot.Slot.{Slot}
use Rattle.region_cut.specs.declared.profile.Profile.{Profile}
use Rattle.region_cut.specs.Classes.{largest_of, IsLeastFor}
use Rattle.digit_route.specs.Digits.{Scheme, IsScheme}
use Rattle.pool_machine.specs.declared.request.Request.{Request}
use Rattle.pool_machine.specs.declared.refusal.Refusal.{Refusal}
use Rattle.pool_machine.specs.Slots.{ListsEachSlot}
use Rattle.pool_machine.specs.State.{State, opening, slots, least_class}
use Rattle.pool_machine.specs.Steps.{Answer, Answers, Step, Run}
use Rattle.pool_machine.specs.Forwards.{forwards}
use Rattle.pool_machine.specs.Reached.{IsReached}
use Rattle.pool_machine.specs.Sound.{IsOrderly, Sound}

-- a pool of at most as many desks as there are numbers begins in a sound state
abbrev pub OpeningIsSound : Type 0
OpeningIsSound = (desks chunks : ℕ) (digits : Scheme) (limit : ℕ) → IsScheme digits → desks ≤ 2 ^ digits.bits
    → Sound (opening desks chunks digits limit) (λ s. 0)

-- every run leads from a sound state to a sound state, with the counts that it tells
abbrev pub RunsStaySound : Type 0
RunsStaySound = (requests : List Request) (answers : List Answer) (old new : State) (count : Slot → ℕ)
    → Sound old count → Run old requests answers new → Sound new (λ s. forwards old requests answers s (count s))

-- so each state that a run of a new pool leads to is sound
abbrev pub ReachedIsSound : Type 0
ReachedIsSound = (st : State) (count : Slot → ℕ) → IsReached st count → Sound st count

-- a sound state is orderly
abbrev pub SoundIsOrderly : Type 0
SoundIsOrderly = (st : State) (count : Slot → ℕ) → Sound st count → IsOrderly st count

-- and `slots` lists each slot of a drawn chunk once
abbrev pub SlotsAreListed : Type 0
SlotsAreListed = (st : State) (count : Slot → ℕ) → Sound st count → ListsEachSlot (slots st) st.drawn

-- so whatever is asked of a new pool, it is orderly afterwards
abbrev pub RunsAreOrderly : Type 0
RunsAreOrderly = (desks chunks : ℕ) (digits : Scheme) (limit : ℕ) → IsScheme digits → desks ≤ 2 ^ digits.bits
    → (requests : List Request) (answers : List Answer) (new : State)
    → Run (opening desks chunks digits limit) requests answers new
    → IsOrderly new (λ s. forwards (opening desks chunks digits limit) requests answers s 0)

-- and it is a pool of the same numbers
pub record HasSameNumbers (old new : State) : Type 0 where
  pub desks : new.desks ≡ old.desks
  pub chunks : new.chunks ≡ old.chunks
  pub digits : new.digits ≡ old.digits
  pub limit : new.limit ≡ old.limit

abbrev pub RunsKeepNumbers : Type 0
RunsKeepNumbers = (requests : List Request) (answers : List Answer) (old new : State) → Run old requests answers new
    → HasSameNumbers old new

-- requests and answers fix the state that they lead to
abbrev pub AnswersFixTheState : Type 0
AnswersFixTheState = (requests : List Request) (answers : List Answer) (old new new' : State)
    → Run old requests answers new → Run old requests answers new' → new ≡ new'

-- every request has an answer, in every state
abbrev pub RequestsAreAnswered : Type 0
RequestsAreAnswered = (st : State) (request : Request) → (answer : Answer) × Answers st request answer

-- a refused request changes nothing
abbrev pub RefusalsChangeNothing : Type 0
RefusalsChangeNothing = (old new : State) (request : Request) (refusal : Refusal)
    → Step old request (Err refusal) new → new ≡ old

-- the class for a size is the least one that is large enough
abbrev pub LeastClassIsLeast : Type 0
LeastClassIsLeast = (p : Profile) (size : ℕ) → size ≤ largest_of p → IsLeastFor p size (least_class p size)
