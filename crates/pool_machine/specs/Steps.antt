-- What an accepted request does, one step of the machine, and runs.
use Rattle.std.specs.Prelude.{◌≡◌, ◌≢◌, ⊤, ◌⊎◌, ◌≤◌, ℕ, suc, ◌<◌, Bool, true, false, ◌&&◌, not, ◌==◌, nat_lt}
use Rattle.std.specs.Prelude.{List, [], ◌∷◌, ◌++◌, map, length, filter, slice_get, Option, Some, None, option_map}
use Rattle.std.specs.Prelude.{Ok, Err, Result, if◌then◌else◌}
use Rattle.region_cut.specs.declared.slot.Slot.{Slot}
use Rattle.std.specs.Option.{option_map_or}
use Rattle.region_cut.specs.Classes.{slots_of}
use Rattle.pool_machine.specs.declared.request.Request.{Request}
use Rattle.pool_machine.specs.declared.request.Request.TheVariants.{Adopt, Retire, Claim, Alloc, Free, Send, Link, Take}
use Rattle.pool_machine.specs.declared.reply.Reply.{Reply}
use Rattle.pool_machine.specs.declared.reply.Reply.TheVariants.{Done, Chunk, Slot as Lent, Home, Cached, Due, Batch}
use Rattle.pool_machine.specs.declared.reply.Reply.TheVariants.{Counts}
use Rattle.pool_machine.specs.declared.refusal.Refusal.{Refusal}
use Rattle.pool_machine.specs.declared.refusal.Refusal.TheVariants.{NoMemory}
use Rattle.region_cut.specs.Slots.{same_slot}
use Rattle.pool_machine.specs.State.{Place, AtHome, OnLoan, InCache, InBatch, Waiting, State, profile_at, least_class}
use Rattle.pool_machine.specs.State.{owner_of, is_at, home_with, in_bucket, bucket, cached_bytes, slots_at, inbox}
use Rattle.pool_machine.specs.Refusals.{slot_named, refusal, may_grow}

-- what a request is answered
abbrev pub Answer : Type 0
Answer = Result Reply Refusal

-- ---- where slots go

-- the slots for which f holds go to the places that `to` tells, and the others stay
abbrev pub moved : (Slot → Bool) → (Slot → Place) → State → State
moved f to st = record st { place = λ s. option_map (λ p. if f s then to s else p) (st.place s) }

-- where a slot goes that desk a freed or took: home where a owns it, else into the cache of a
abbrev pub kept_place : State → ℕ → Slot → Place
kept_place st a s = if owner_of st s == a then AtHome else InCache a

-- the number of the front of the inbox of b, 0 where there is none
abbrev pub front_of : State → ℕ → ℕ
front_of st b = option_map_or (λ (w : Waiting). w.number) (slice_get (inbox st b) 0) 0

-- ---- the state after an accepted request

-- the desk a is held by this worker, or by nobody
abbrev pub with_holder : ℕ → Option ℕ → State → State
with_holder a x st = record st { holder = λ b. if a == b then x else st.holder b }

-- the chunk k is drawn by a for the class c, and its slots are at home
abbrev pub with_chunk : ℕ → ℕ → ℕ → State → State
with_chunk k a c st = record st {
  drawn = λ m. if k == m then Some (record { owner = a; class = c }) else st.drawn m;
  place = λ s. if (k == s.chunk) && nat_lt s.index (slots_of c) then Some AtHome else st.place s;
}

-- the slot was freed by a
abbrev pub after_free : State → ℕ → Slot → State
after_free st a s = moved (same_slot s) (λ r. kept_place st a s) st

-- the bucket of a for t is the batch with the next number, which waits to be linked
abbrev pub after_send : State → ℕ → ℕ → State
after_send st a t = record (moved (in_bucket st a t) (λ s. InBatch st.next) st) {
  next = suc st.next;
  waiting = st.waiting ++ record { number = st.next; sender = a; address = t; linked = false } ∷ [];
}

-- the front of the inbox of b was taken
abbrev pub after_take : State → ℕ → State
after_take st b = record (moved (is_at st (InBatch (front_of st b))) (kept_place st b) st) {
  waiting = filter (λ w. not (front_of st b == w.number)) st.waiting;
}

-- the state that a request and its answer leave; a refusal changes nothing, and a link marks the batch of its number
abbrev pub after : State → Request → Answer → State
after st q (Err r) = st
after st (Adopt a x) (Ok r) = with_holder a (Some x) st
after st (Retire a) (Ok r) = with_holder a None st
after st (Claim a c) (Ok (Chunk k)) = with_chunk k a c st
after st (Alloc a n) (Ok (Lent s)) = moved (same_slot s) (λ r. OnLoan) st
after st (Free a pair) (Ok r) = after_free st a (slot_named pair)
after st (Send a t) (Ok r) = after_send st a t
after st (Link n) (Ok r) = record st {
  waiting = map (λ (w : Waiting). if n == w.number then record w { linked = true } else w) st.waiting;
}
after st (Take b) (Ok r) = after_take st b
after st _ _ = st

-- ---- answers

-- what an accepted request may be answered: any undrawn chunk, any slot of the class at home, and else what the state
-- tells
abbrev pub Replies : State → Request → Reply → Type 0
Replies st (Adopt a x) Done = ⊤
Replies st (Retire a) Done = ⊤
Replies st (Claim a c) (Chunk k) = (k < st.chunks) × (st.drawn k ≡ None)
Replies st (Alloc a n) (Lent s) = home_with st a (least_class (profile_at st) n) s ≡ true
Replies st (Free a pair) Home = owner_of st (slot_named pair) ≡ a
Replies st (Free a pair) Cached =
    (owner_of st (slot_named pair) ≢ a) × (cached_bytes (after_free st a (slot_named pair)) a ≤ st.limit)
Replies st (Free a pair) Due =
    (owner_of st (slot_named pair) ≢ a) × (st.limit < cached_bytes (after_free st a (slot_named pair)) a)
Replies st (Send a t) (Batch n m) = (n ≡ st.next) × (m ≡ length (bucket st a t))
Replies st (Link n) Done = ⊤
Replies st (Take b) (Counts home on) =
    (home ≡ length (filter (λ s. owner_of st s == b) (slots_at st (InBatch (front_of st b)))))
    × (on ≡ length (filter (λ s. not (owner_of st s == b)) (slots_at st (InBatch (front_of st b)))))
Replies st _ _ = ⊥

-- what a request may be answered: its refusal; want of memory, where nothing else stands against it; or a reply
abbrev pub Answers : State → Request → Answer → Type 0
Answers st q (Err r) = (refusal st q ≡ Some r) ⊎ ((refusal st q ≡ None) × (may_grow q ≡ true) × (r ≡ NoMemory))
Answers st q (Ok r) = (refusal st q ≡ None) × Replies st q r

-- ---- steps and runs

-- the request may be answered so, and then leaves this state
abbrev pub Step : State → Request → Answer → State → Type 0
Step old q y new = Answers old q y × (new ≡ after old q y)

-- one request after the other, each with its answer
abbrev pub Run : State → List Request → List Answer → State → Type 0
Run old [] [] new = new ≡ old
Run old (q ∷ qs) (y ∷ ys) new = Answers old q y × Run (after old q y) qs ys new
Run old _ _ new = ⊥
