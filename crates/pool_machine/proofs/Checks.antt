-- A test of what a request may answer, and of whole runs.
use Rattle.std.proofs.Common.{◌≡◌, ℕ, Bool, true, false, ◌&&◌, not, ◌==◌, nat_lt, nat_le, List, [], ◌∷◌, length, filter, Option, Some, None, Ok, Err, is_none}
use Rattle.std.specs.List.{list_all}
use Rattle.std.proofs.Common.{slice_index_or, refl, sym, ap, ◌∙◌, subst, inl, inr}
use Rattle.std.proofs.lemmas.Bool.{eqb-true, eqb-false, eq-eqb, ne_eqb, and_parts, and_from, ltb-true, leb-true, lt-ltb, le-leb, not-true, not_from_false, false≢true}
use Rattle.pool_machine.specs.declared.request.Request.{Request}
use Rattle.pool_machine.specs.declared.request.Request.TheVariants.{Adopt, Retire, Claim, Alloc, Free, Send, Link, Take}
use Rattle.pool_machine.specs.declared.reply.Reply.{Reply}
use Rattle.pool_machine.specs.declared.reply.Reply.TheVariants.{Done, Chunk, Slot as Lent, Home, Cached, Due, Batch, Counts}
use Rattle.pool_machine.specs.declared.refusal.Refusal.{Refusal}
use Rattle.pool_machine.specs.declared.refusal.Refusal.TheVariants.{NoDesk, Idle, TooLarge, NeedChunk, NotNeeded, NoChunk, NotLent, NothingFor, NotAnOwner, ToSelf, NoBatch, Nothing, Unsettled, Held, NoMemory, BadClass, Spent}
use Rattle.pool_machine.specs.State.{profile_at, least_class, State, owner_of, home_with, bucket, InBatch, slots_at}
use Rattle.pool_machine.specs.Refusals.{refusal, slot_named}
use Rattle.pool_machine.specs.Worked.{asked, answered, Allows, Forbids}
use Rattle.pool_machine.specs.Steps.{Answer, front_of, Replies, Answers, after, Run}
use Rattle.pool_machine.proofs.Words.{bytes_with}

abbrev pub replies : State → Request → Reply → Bool
replies st (Adopt a x) Done = true
replies st (Retire a) Done = true
replies st (Claim a c) (Chunk k) = nat_lt k st.chunks && is_none (st.drawn k)
replies st (Alloc a n) (Lent s) = home_with st a (least_class (profile_at st) n) s
replies st (Free a pair) Home = owner_of st (slot_named pair) == a
replies st (Free a pair) Cached = not (owner_of st (slot_named pair) == a) && nat_le (bytes_with st a (slot_named pair)) st.limit
replies st (Free a pair) Due = not (owner_of st (slot_named pair) == a) && nat_lt st.limit (bytes_with st a (slot_named pair))
replies st (Send a t) (Batch n m) = (n == st.next) && (m == length (bucket st a t))
replies st (Link n) Done = true
replies st (Take b) (Counts h o) =
    (h == length (filter (λ s. owner_of st s == b) (slots_at st (InBatch (front_of st b)))))
    && (o == length (filter (λ s. not (owner_of st s == b)) (slots_at st (InBatch (front_of st b)))))
replies st _ _ = false

abbrev pub code : Refusal → ℕ
code NoDesk = 1
code Idle = 2
code TooLarge = 3
code NeedChunk = 4
code NotNeeded = 5
code NoChunk = 6
code NotLent = 7
code NothingFor = 8
code NotAnOwner = 9
code ToSelf = 10
code NoBatch = 11
code Nothing = 12
code Unsettled = 13
code Held = 14
code NoMemory = 15
code BadClass = 16
code Spent = 18

abbrev pub refused_as : Option Refusal → Refusal → Bool
refused_as None r = false
refused_as (Some q) r = code q == code r

-- without want of memory
abbrev pub answers : State → Request → Answer → Bool
answers st q (Err r) = refused_as (refusal st q) r
answers st q (Ok r) = is_none (refusal st q) && replies st q r

abbrev pub runs : State → List Request → List Answer → Bool
runs st [] [] = true
runs st (q ∷ qs) (y ∷ ys) = answers st q y && runs (after st q y) qs ys
runs st _ _ = false

-- ---- the test is right, and complete where no memory is wanted

both_true : (x y : Bool) → (x && y) ≡ true → (x ≡ true) × (y ≡ true)
both_true x y e = and_parts x y e

none_is : {A : Type 0} (o : Option A) → is_none o ≡ true → o ≡ None
none_is None e = refl
none_is (Some x) e = absurd (false≢true e)

replies_right : (st : State) (q : Request) (r : Reply) → replies st q r ≡ true → Replies st q r
replies_right st (Adopt a x) Done e = tt
replies_right st (Retire a) Done e = tt
replies_right st (Claim a c) (Chunk k) e =
    let h = both_true (nat_lt k st.chunks) (is_none (st.drawn k)) e in (ltb-true k st.chunks h.0, none_is (st.drawn k) h.1)
replies_right st (Alloc a n) (Lent s) e = e
replies_right st (Free a pair) Home e = eqb-true _ _ e
replies_right st (Free a pair) Cached e =
    let h = both_true (not (owner_of st (slot_named pair) == a)) (nat_le (bytes_with st a (slot_named pair)) st.limit) e in
    (eqb-false _ _ (not-true _ h.0), leb-true _ _ h.1)
replies_right st (Free a pair) Due e =
    let h = both_true (not (owner_of st (slot_named pair) == a)) (nat_lt st.limit (bytes_with st a (slot_named pair))) e in
    (eqb-false _ _ (not-true _ h.0), ltb-true _ _ h.1)
replies_right st (Send a t) (Batch n m) e =
    let h = both_true (n == st.next) (m == length (bucket st a t)) e in (eqb-true _ _ h.0, eqb-true _ _ h.1)
replies_right st (Link n) Done e = tt
replies_right st (Take b) (Counts h o) e =
    let k = both_true (h == length (filter (λ s. owner_of st s == b) (slots_at st (InBatch (front_of st b)))))
    (o == length (filter (λ s. not (owner_of st s == b)) (slots_at st (InBatch (front_of st b))))) e in
    (eqb-true _ _ k.0, eqb-true _ _ k.1)
replies_right st _ _ e = absurd (false≢true e)

replies_all : (st : State) (q : Request) (r : Reply) → Replies st q r → replies st q r ≡ true
replies_all st (Adopt a x) Done g = refl
replies_all st (Retire a) Done g = refl
replies_all st (Claim a c) (Chunk k) g = and_from (nat_lt k st.chunks) (is_none (st.drawn k)) (lt-ltb k st.chunks g.0) (ap is_none g.1)
replies_all st (Alloc a n) (Lent s) g = g
replies_all st (Free a pair) Home g = eq-eqb _ _ g
replies_all st (Free a pair) Cached g =
    and_from (not (owner_of st (slot_named pair) == a)) (nat_le (bytes_with st a (slot_named pair)) st.limit) (not_from_false _ (ne_eqb _ _ g.0))
    (le-leb _ _ g.1)
replies_all st (Free a pair) Due g =
    and_from (not (owner_of st (slot_named pair) == a)) (nat_lt st.limit (bytes_with st a (slot_named pair))) (not_from_false _ (ne_eqb _ _ g.0))
    (lt-ltb _ _ g.1)
replies_all st (Send a t) (Batch n m) g = and_from (n == st.next) (m == length (bucket st a t)) (eq-eqb _ _ g.0) (eq-eqb _ _ g.1)
replies_all st (Link n) Done g = refl
replies_all st (Take b) (Counts h o) g = and_from
    (h == length (filter (λ s. owner_of st s == b) (slots_at st (InBatch (front_of st b)))))
    (o == length (filter (λ s. not (owner_of st s == b)) (slots_at st (InBatch (front_of st b)))))
    (eq-eqb _ _ g.0) (eq-eqb _ _ g.1)
replies_all st _ _ g = elim g [ ]

-- a refusal is told by its number
abbrev named : ℕ → Refusal
named n = slice_index_or (NoDesk ∷ NoDesk ∷ Idle ∷ TooLarge ∷ NeedChunk ∷ NotNeeded ∷ NoChunk ∷ NotLent ∷ NothingFor ∷ NotAnOwner ∷ ToSelf ∷
    NoBatch ∷ Nothing ∷ Unsettled ∷ Held ∷ NoMemory ∷ BadClass ∷ Spent ∷ Spent ∷ []) n NoDesk

named_code : (r : Refusal) → named (code r) ≡ r
named_code NoDesk = refl
named_code Idle = refl
named_code TooLarge = refl
named_code NeedChunk = refl
named_code NotNeeded = refl
named_code NoChunk = refl
named_code NotLent = refl
named_code NothingFor = refl
named_code NotAnOwner = refl
named_code ToSelf = refl
named_code NoBatch = refl
named_code Nothing = refl
named_code Unsettled = refl
named_code Held = refl
named_code NoMemory = refl
named_code BadClass = refl
named_code Spent = refl

refused_right : (o : Option Refusal) (r : Refusal) → refused_as o r ≡ true → o ≡ Some r
refused_right None r e = absurd (false≢true e)
refused_right (Some q) r e = ap Some (sym (named_code q) ∙ (ap named (eqb-true (code q) (code r) e) ∙ named_code r))

answers_right : (st : State) (q : Request) (y : Answer) → answers st q y ≡ true → Answers st q y
answers_right st q (Err r) e = inl (refused_right (refusal st q) r e)
answers_right st q (Ok r) e =
    let h = both_true (is_none (refusal st q)) (replies st q r) e in (none_is (refusal st q) h.0, replies_right st q r h.1)

abbrev pub left_by : State → List Request → List Answer → State
left_by st (q ∷ qs) (y ∷ ys) = left_by (after st q y) qs ys
left_by st _ _ = st

-- what the test passes is a run
pub runs_right : (st : State) (qs : List Request) (ys : List Answer) → runs st qs ys ≡ true → Run st qs ys (left_by st qs ys)
runs_right st [] [] e = refl
runs_right st (q ∷ qs) (y ∷ ys) e =
    let h = both_true (answers st q y) (runs (after st q y) qs ys) e in (answers_right st q y h.0, runs_right (after st q y) qs ys h.1)
runs_right st [] (y ∷ ys) e = absurd (false≢true e)
runs_right st (q ∷ qs) [] e = absurd (false≢true e)

-- an answer of ample memory
abbrev pub is_ample : Answer → Bool
is_ample (Err NoMemory) = false
is_ample _ = true

refused_same : (o : Option Refusal) (r : Refusal) → o ≡ Some r → refused_as o r ≡ true
refused_same o r e = subst (λ p. refused_as p r ≡ true) (sym e) (eq-eqb (code r) (code r) refl)

answers_all : (st : State) (q : Request) (y : Answer) → is_ample y ≡ true → Answers st q y → answers st q y ≡ true
answers_all st q (Ok r) m g = and_from (is_none (refusal st q)) (replies st q r) (ap is_none g.0) (replies_all st q r g.1)
answers_all st q (Err r) m (inl e) = refused_same (refusal st q) r e
answers_all st q (Err r) m (inr g) = absurd (false≢true (sym (ap (λ x. is_ample (Err x)) g.2) ∙ m))

-- what the test doesn't pass is no run
pub runs_all : (st : State) (qs : List Request) (ys : List Answer) (new : State) → list_all is_ample ys ≡ true → Run st qs ys new →
    runs st qs ys ≡ true
runs_all st [] [] new m g = refl
runs_all st (q ∷ qs) (y ∷ ys) new m g =
    let k = both_true (is_ample y) (list_all is_ample ys) m in
    and_from (answers st q y) (runs (after st q y) qs ys) (answers_all st q y k.0 g.0) (runs_all (after st q y) qs ys new k.1 g.1)
runs_all st [] (y ∷ ys) new m g = elim g [ ]
runs_all st (q ∷ qs) [] new m g = elim g [ ]

-- ---- worked runs

pub gives : (st : State) (told : List (Request × Answer)) → runs st (asked told) (answered told) ≡ true → Allows st told
unfolding Allows
gives st told e = (left_by st (asked told) (answered told), runs_right st (asked told) (answered told) e)

pub never : (st : State) (told : List (Request × Answer)) → list_all is_ample (answered told) ≡ true →
    runs st (asked told) (answered told) ≡ false → Forbids st told
unfolding Forbids
never st told m e new g = false≢true (sym e ∙ runs_all st (asked told) (answered told) new m g)
