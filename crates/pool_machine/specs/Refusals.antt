-- Why the machine refuses a request.
use Rattle.std.specs.Prelude.{ℕ, ◌^◌, Bool, true, false, ◌||◌, ◌&&◌, not, ◌==◌, nat_lt, nat_le, List, [], ◌∷◌, Option}
use Rattle.std.specs.Prelude.{Some, None, is_some, is_none, if◌then◌else◌, slice_get}
use Rattle.std.specs.List.{list_any, list_all, range_with_len}
use Rattle.std.specs.Option.{option_map_or}
use Rattle.region_cut.specs.declared.slot.Slot.{Slot}
use Rattle.region_cut.specs.Classes.{classes_of, largest_of}
use Rattle.pool_machine.specs.declared.request.Request.{Request}
use Rattle.pool_machine.specs.declared.request.Request.TheVariants.{Adopt, Retire, Claim, Alloc, Free, Send, Link, Take}
use Rattle.pool_machine.specs.declared.refusal.Refusal.{Refusal}
use Rattle.pool_machine.specs.declared.refusal.Refusal.TheVariants.{NoDesk, Idle, TooLarge, NeedChunk, NotNeeded}
use Rattle.pool_machine.specs.declared.refusal.Refusal.TheVariants.{NoChunk, NotLent, NothingFor, NotAnOwner, ToSelf}
use Rattle.pool_machine.specs.declared.refusal.Refusal.TheVariants.{NoBatch, Nothing, Unsettled, Held, BadClass, Spent}
use Rattle.pool_machine.specs.State.{OnLoan, InCache, State, profile_at, least_class, owner_of, slots}
use Rattle.pool_machine.specs.State.{is_at, has_home, in_bucket, inbox}

-- there is no desk a
abbrev pub lacks_desk : State → ℕ → Bool
lacks_desk st a = nat_le st.desks a

-- the slot that a Free names
abbrev pub slot_named : ℕ × ℕ → Slot
slot_named pair = record { chunk = pair.0; index = pair.1 }

-- what may stand against a request, in the order in which it is tested
abbrev pub conditions : State → Request → List (Bool × Refusal)
conditions st (Adopt a x) = (lacks_desk st a, NoDesk) ∷ (is_some (st.holder a), Held) ∷ []
conditions st (Retire a) =
    (lacks_desk st a, NoDesk) ∷ (is_none (st.holder a), Idle) ∷ (list_any (is_at st (InCache a)) (slots st), Unsettled)
    ∷ (list_any (λ w. (a == w.sender) && not w.linked) st.waiting, Unsettled) ∷ []
conditions st (Claim a c) =
    (lacks_desk st a, NoDesk) ∷ (is_none (st.holder a), Idle) ∷ (nat_le (classes_of (profile_at st)) c, BadClass)
    ∷ (has_home st a c, NotNeeded) ∷ (list_all (λ k. is_some (st.drawn k)) (range_with_len 0 st.chunks), NoChunk) ∷ []
conditions st (Alloc a n) =
    (lacks_desk st a, NoDesk) ∷ (is_none (st.holder a), Idle) ∷ (nat_lt (largest_of (profile_at st)) n, TooLarge)
    ∷ (not (has_home st a (least_class (profile_at st) n)), NeedChunk) ∷ []
conditions st (Free a pair) =
    (lacks_desk st a, NoDesk) ∷ (is_none (st.holder a), Idle) ∷ (not (is_at st OnLoan (slot_named pair)), NotLent) ∷ []
conditions st (Send a t) =
    (lacks_desk st a || lacks_desk st t, NoDesk) ∷ (is_none (st.holder a), Idle) ∷ (a == t, ToSelf)
    ∷ (not (list_any (in_bucket st a t) (slots st)), NothingFor)
    ∷ (not (list_any (λ s. in_bucket st a t s && (owner_of st s == t)) (slots st)), NotAnOwner)
    ∷ (nat_le (2 ^ 32) st.next, Spent) ∷ []
conditions st (Link n) = (not (list_any (λ w. (n == w.number) && not w.linked) st.waiting), NoBatch) ∷ []
conditions st (Take b) =
    (lacks_desk st b, NoDesk) ∷ (is_none (st.holder b), Idle)
    ∷ (not (option_map_or (λ w. w.linked) (slice_get (inbox st b) 0) false), Nothing) ∷ []

-- the first of them that holds
abbrev pub first : List (Bool × Refusal) → Option Refusal
first [] = None
first (c ∷ cs) = if c.0 then Some c.1 else first cs

-- why the request is refused; None: only for want of memory
abbrev pub refusal : State → Request → Option Refusal
refusal st q = first (conditions st q)

-- the requests that may want memory
abbrev pub may_grow : Request → Bool
may_grow (Alloc a n) = true
may_grow (Send a t) = true
may_grow _ = false
