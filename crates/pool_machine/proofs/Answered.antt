-- Every request has an answer.
use Rattle.std.proofs.Common.{◌≡◌, ◌≢◌, ℕ, zero, suc, ◌+◌, ◌<◌, Bool, true, false, ◌&&◌, ◌==◌, length, Option, Some, None, Ok, Err, is_some, refl, arith, inl, inr}
use Rattle.std.specs.List.{list_all, range_with_len}
use Rattle.std.proofs.lemmas.Bool.{eqb-true, eqb-false, not-false, cases_lt, true≢false}
use Rattle.pool_machine.specs.declared.chunk.DrawnChunk.{DrawnChunk}
use Rattle.pool_machine.specs.declared.request.Request.{Request}
use Rattle.pool_machine.specs.declared.request.Request.TheVariants.{Adopt, Retire, Claim, Alloc, Free, Send, Link, Take}
use Rattle.pool_machine.specs.declared.reply.Reply.TheVariants.{Done, Chunk, Slot as Lent, Home, Cached, Due, Batch, Counts}
use Rattle.pool_machine.specs.declared.refusal.Refusal.{Refusal}
use Rattle.pool_machine.specs.State.{State, owner_of, slots, has_home, home_with, bucket, least_class, profile_at}
use Rattle.pool_machine.specs.Refusals.{conditions, refusal, slot_named}
use Rattle.pool_machine.specs.Steps.{Answer, Answers}
use Rattle.pool_machine.proofs.Basics.{none_hold, any_witness}
use Rattle.pool_machine.proofs.Words.{bytes_with, coming_home, going_on}

-- a number of a range that fails
range_witness : (f : ℕ → Bool) (m a : ℕ) → list_all f (range_with_len a m) ≡ false → (k : ℕ) × (k < a + m) × (f k ≡ false)
range_witness f zero a e = absurd (true≢false e)
range_witness f (suc m) a e = go (f a) refl (range_witness f m (a + 1)) e
  where
    go : (b : Bool) → f a ≡ b → (list_all f (range_with_len (a + 1) m) ≡ false → (k : ℕ) × (k < a + 1 + m) × (f k ≡ false))
        → (b && list_all f (range_with_len (a + 1) m)) ≡ false → (k : ℕ) × (k < a + suc m) × (f k ≡ false)
    go true q g l = let w = g l in (w.0, (let u = w.1 in omega (arith, u)), w.2)
    go false q g l = (a, omega arith, q)

undrawn_is : (o : Option DrawnChunk) → is_some o ≡ false → o ≡ None
undrawn_is None e = refl
undrawn_is (Some d) e = absurd (true≢false e)

abbrev HasAnswer : State → Request → Type 0
HasAnswer st q = (y : Answer) × Answers st q y

claim_answered : (st : State) (a c : ℕ) → refusal st (Claim a c) ≡ None → HasAnswer st (Claim a c)
claim_answered st a c e =
    let some_undrawn = (none_hold (conditions st (Claim a c)) e).1.1.1.1.0 in
    let w = range_witness (λ k. is_some (st.drawn k)) st.chunks 0 some_undrawn in
    let l = w.1 in
    let below : w.0 < st.chunks = omega (arith, l) in
    (Ok (Chunk w.0), (e, (below, undrawn_is (st.drawn w.0) w.2)))

alloc_answered : (st : State) (a n : ℕ) → refusal st (Alloc a n) ≡ None → HasAnswer st (Alloc a n)
alloc_answered st a n e =
    let some_home = (none_hold (conditions st (Alloc a n)) e).1.1.1.0 in
    let w = any_witness (home_with st a (least_class (profile_at st) n)) (slots st)
    (not-false (has_home st a (least_class (profile_at st) n)) some_home) in
    (Ok (Lent w.0), (e, w.1))

free_answered : (st : State) (a : ℕ) (pair : ℕ × ℕ) → refusal st (Free a pair) ≡ None → HasAnswer st (Free a pair)
free_answered st a pair e = go (owner_of st (slot_named pair) == a) refl
  where
    others : owner_of st (slot_named pair) ≢ a → HasAnswer st (Free a pair)
    others n = elim (cases_lt st.limit (bytes_with st a (slot_named pair))) as (λ _. HasAnswer st (Free a pair)) [
      | inl l ↦ (Ok Due, (e, (n, l)))
      | inr l ↦ (Ok Cached, (e, (n, l)))
    ]

    go : (b : Bool) → (owner_of st (slot_named pair) == a) ≡ b → HasAnswer st (Free a pair)
    go true q = (Ok Home, (e, eqb-true _ _ q))
    go false q = others (eqb-false _ _ q)

accepted_answered : (st : State) (q : Request) → refusal st q ≡ None → HasAnswer st q
accepted_answered st (Adopt a x) e = (Ok Done, (e, tt))
accepted_answered st (Retire a) e = (Ok Done, (e, tt))
accepted_answered st (Claim a c) e = claim_answered st a c e
accepted_answered st (Alloc a n) e = alloc_answered st a n e
accepted_answered st (Free a pair) e = free_answered st a pair e
accepted_answered st (Send a t) e = (Ok (Batch st.next (length (bucket st a t))), (e, (refl, refl)))
accepted_answered st (Link n) e = (Ok Done, (e, tt))
accepted_answered st (Take b) e = (Ok (Counts (length (coming_home st b)) (length (going_on st b))), (e, (refl, refl)))

pub answered : (st : State) (q : Request) → HasAnswer st q
answered st q = go (refusal st q) refl
  where
    go : (o : Option Refusal) → refusal st q ≡ o → HasAnswer st q
    go None e = accepted_answered st q e
    go (Some r) e = (Err r, inl e)
