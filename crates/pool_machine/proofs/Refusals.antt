-- The refusals of a request, read off the floor's lists.
use Rattle.std.proofs.Common.{◌≡◌, ℕ, zero, suc, ◌+◌, ◌^◌, ◌<◌, Bool, true, false, ◌&&◌, ◌||◌, not, ◌==◌, nat_lt, nat_le, cond, List, [], ◌∷◌, map, length, filter, get_or, Option, Some, None, Err, is_some, is_none, refl, sym, ap, ap₂, ◌∙◌, subst, arith, inl, inr}
use Rattle.std.specs.List.{list_any, list_all, range_with_len}
use Rattle.std.proofs.Common.{◌≤◌, zero-le, zero-add, slice_get}
use Rattle.std.proofs.lemmas.Bool.Decides.{nat_tests}
use Rattle.std.proofs.lemmas.Bool.{lt-ltb, cases_lt, le-ltb, false≢true, true≢false, eq-eqb}
use Rattle.region_cut.specs.declared.slot.Slot.{Slot}
use Rattle.pool_machine.specs.declared.request.Request.{Request}
use Rattle.pool_machine.specs.declared.request.Request.TheVariants.{Adopt, Retire, Claim, Alloc, Free, Send, Link, Take}
use Rattle.pool_machine.specs.declared.refusal.Refusal.{Refusal}
use Rattle.pool_machine.specs.declared.refusal.Refusal.TheVariants.{NoDesk, Idle, TooLarge, NeedChunk, NotNeeded, NoChunk, NotLent, NothingFor, NotAnOwner, ToSelf, NoBatch, Nothing, Unsettled, Held, NoMemory, BadClass, Spent}
use Rattle.region_cut.specs.Classes.{classes_of, largest_of}
use Rattle.region_cut.specs.Slots.{same_slot, times}
use Rattle.pool_machine.specs.Slots.{one_if}
use Rattle.pool_machine.specs.State.{profile_at, least_class, State, Waiting, owner_of, class_of, slots, home_with, has_home, in_bucket, inbox, OnLoan, InCache, same_place, is_at}
use Rattle.pool_machine.specs.Refusals.{first, conditions, refusal, lacks_desk, slot_named, may_grow}
use Rattle.pool_machine.specs.Sound.{Member}
use Rattle.pool_machine.specs.Listing.{Listing, Entry, BatchListing, slots_seen, desk_listing}
use Rattle.pool_machine.proofs.Located.{inbox_listing, HomeOf, Loans, CacheOf, list_of, is_list, Located, LocatedStep}
use Rattle.digit_route.specs.Digits.{Scheme, common}
use Rattle.digit_route.specs.Profiles.{profile_of}
use Rattle.pool_machine.proofs.Basics.{Member-filter}
use Rattle.pool_machine.proofs.Enumerate.{count_cons}
use Rattle.pool_machine.proofs.InPlace.{in_cache_is}
use Rattle.pool_machine.proofs.PartBy.{part_any, home_with_is, lent_named, bools_agree, any_same}
use Rattle.pool_machine.proofs.Words.{as_waiting, is_unlinked, near, front_ready}

-- whether the bucket for t takes an owner's buffers
abbrev pub goes_by : Scheme → ℕ → ℕ → ℕ → Bool
goes_by s a t o = nat_lt (common s a t) (common s o t)

-- some batch of an inbox passes
abbrev pub any_queued : (Waiting → Bool) → List (List BatchListing) → Bool
any_queued p is = list_any (λ ws. list_any (λ w. p (as_waiting w)) ws) is

abbrev pub conditions_seen : Listing → Request → List (Bool × Refusal)
conditions_seen v (Adopt a x) = (nat_le (length v.desks) a, NoDesk) ∷ (is_some (desk_listing v a).worker, Held) ∷ []
conditions_seen v (Retire a) =
    (nat_le (length v.desks) a, NoDesk) ∷ (is_none (desk_listing v a).worker, Idle)
    ∷ (list_any (λ (e : Entry). true) (desk_listing v a).cache, Unsettled)
    ∷ (any_queued (λ w. (a == w.sender) && not w.linked) v.inboxes, Unsettled) ∷ []
conditions_seen v (Claim a c) =
    (nat_le (length v.desks) a, NoDesk) ∷ (is_none (desk_listing v a).worker, Idle) ∷ (nat_le (classes_of (profile_of v.digits.bits)) c, BadClass)
    ∷ (list_any (λ (e : Entry). e.class == c) (desk_listing v a).home, NotNeeded) ∷ (nat_le v.chunks (length v.drawn), NoChunk) ∷ []
conditions_seen v (Alloc a n) =
    (nat_le (length v.desks) a, NoDesk) ∷ (is_none (desk_listing v a).worker, Idle) ∷ (nat_lt (largest_of (profile_of v.digits.bits)) n, TooLarge)
    ∷ (not (list_any (λ (e : Entry). e.class == least_class (profile_of v.digits.bits) n) (desk_listing v a).home), NeedChunk) ∷ []
conditions_seen v (Free a pair) =
    (nat_le (length v.desks) a, NoDesk) ∷ (is_none (desk_listing v a).worker, Idle)
    ∷ (not (list_any (λ (e : Entry). same_slot (slot_named pair) e.slot) v.lent), NotLent) ∷ []
conditions_seen v (Send a t) =
    (nat_le (length v.desks) a || nat_le (length v.desks) t, NoDesk) ∷ (is_none (desk_listing v a).worker, Idle) ∷ (a == t, ToSelf)
    ∷ (not (list_any (λ (e : Entry). goes_by v.digits a t e.owner) (desk_listing v a).cache), NothingFor)
    ∷ (not (list_any (λ (e : Entry). goes_by v.digits a t e.owner && (e.owner == t)) (desk_listing v a).cache), NotAnOwner)
    ∷ (nat_le (2 ^ 32) v.next, Spent) ∷ []
conditions_seen v (Link n) = (not (any_queued (is_unlinked n) v.inboxes), NoBatch) ∷ []
conditions_seen v (Take b) =
    (nat_le (length v.desks) b, NoDesk) ∷ (is_none (desk_listing v b).worker, Idle) ∷
    (not (front_ready (map as_waiting (inbox_listing v b))), Nothing) ∷ []

abbrev pub refusal_seen : Listing → Request → Option Refusal
refusal_seen v q = first (conditions_seen v q)

-- ---- batches

any_of_member : (p : Waiting → Bool) (w : Waiting) (xs : List Waiting) → Member w xs → p w ≡ true → list_any p xs ≡ true
any_of_member p w [] m e = elim m [ ]
any_of_member p w (x ∷ xs) (inl q) e = ap (λ b. b || list_any p xs) (ap p (sym q) ∙ e)
any_of_member p w (x ∷ xs) (inr m) e = ap (λ b. p x || b) (any_of_member p w xs m e) ∙ or_true (p x)
  where
    or_true : (b : Bool) → (b || true) ≡ true
    or_true true = refl
    or_true false = refl

member_of_any : (p : Waiting → Bool) (xs : List Waiting) → list_any p xs ≡ true → (w : Waiting) × Member w xs × (p w ≡ true)
member_of_any p [] e = absurd (false≢true e)
member_of_any p (x ∷ xs) e = go (p x) refl (member_of_any p xs) e
  where
    go : (b : Bool) → p x ≡ b → (list_any p xs ≡ true → (w : Waiting) × Member w xs × (p w ≡ true)) → (b || list_any p xs) ≡ true → (w : Waiting)
        × Member w (x ∷ xs) × (p w ≡ true)
    go true q f l = (x, inl refl, q)
    go false q f l = let h = f l in (h.0, inr h.1, h.2)

filter_any : (p q : Waiting → Bool) (xs : List Waiting) → list_any p (filter q xs) ≡ true → list_any p xs ≡ true
filter_any p q [] e = e
filter_any p q (x ∷ xs) e = go (q x) (p x) refl (filter_any p q xs) e
  where
    go : (b c : Bool) → p x ≡ c → (list_any p (filter q xs) ≡ true → list_any p xs ≡ true) →
        list_any p (cond b (x ∷ filter q xs) (filter q xs)) ≡ true → (p x || list_any p xs) ≡ true
    go b true k f l = ap (λ y. y || list_any p xs) k
    go true false k f l = ap (λ y. y || list_any p xs) k ∙ f (ap (λ y. y || list_any p (filter q xs)) (sym k) ∙ l)
    go false false k f l = ap (λ y. y || list_any p xs) k ∙ f l

any_map : (p : Waiting → Bool) (ws : List BatchListing) → list_any p (map as_waiting ws) ≡ list_any (λ w. p (as_waiting w)) ws
any_map p [] = refl
any_map p (w ∷ ws) = ap (λ b. p (as_waiting w) || b) (any_map p ws)

row_of_any : (p : List BatchListing → Bool) (is : List (List BatchListing)) → list_any p is ≡ true → (b : ℕ) × (p (get_or is b []) ≡ true)
row_of_any p [] e = absurd (false≢true e)
row_of_any p (ws ∷ is) e = go (p ws) refl (row_of_any p is) e
  where
    go : (b : Bool) → p ws ≡ b → (list_any p is ≡ true → (b : ℕ) × (p (get_or is b []) ≡ true)) → (b || list_any p is) ≡ true → (b : ℕ)
        × (p (get_or (ws ∷ is) b []) ≡ true)
    go true q f l = (zero, q)
    go false q f l = let h = f l in (suc h.0, h.1)

pub any_of_row : (p : List BatchListing → Bool) (is : List (List BatchListing)) (b : ℕ) → p [] ≡ false → p (get_or is b []) ≡ true →
    list_any p is ≡ true
any_of_row p [] b n e = absurd (true≢false (sym e ∙ n))
any_of_row p (ws ∷ is) zero n e = ap (λ b. b || list_any p is) e
any_of_row p (ws ∷ is) (suc b) n e = ap (λ y. p ws || y) (any_of_row p is b n e) ∙ or_true (p ws)
  where
    or_true : (b : Bool) → (b || true) ≡ true
    or_true true = refl
    or_true false = refl

pub queued_any : (v : Listing) (st : State) (count : Slot → ℕ) → Located v st count → (p : Waiting → Bool) →
    list_any p st.waiting ≡ any_queued p v.inboxes
queued_any v st count h p = bools_agree (list_any p st.waiting) (any_queued p v.inboxes) there back
  where
    in_inbox : (b : ℕ) → list_any p (inbox st b) ≡ list_any (λ w. p (as_waiting w)) (inbox_listing v b)
    in_inbox b = ap (list_any p) (sym (h.frame.inboxes b)) ∙ any_map p (inbox_listing v b)

    there : list_any p st.waiting ≡ true → any_queued p v.inboxes ≡ true
    there e =
        let m = member_of_any p st.waiting e in
        any_of_row (λ ws. list_any (λ w. p (as_waiting w)) ws) v.inboxes m.0.address refl
        (sym (in_inbox m.0.address)
        ∙ any_of_member p m.0 (inbox st m.0.address) (Member-filter (λ w. m.0.address == w.address) m.0 st.waiting m.1
        (eq-eqb m.0.address m.0.address refl)) m.2)

    back : any_queued p v.inboxes ≡ true → list_any p st.waiting ≡ true
    back e =
        let r = row_of_any (λ ws. list_any (λ w. p (as_waiting w)) ws) v.inboxes e in
        filter_any p (λ w. r.0 == w.address) st.waiting (in_inbox r.0 ∙ r.1)

-- ---- lent

times_any : (s : Slot) (xs : List Entry) → one_if (list_any (λ (e : Entry). same_slot s e.slot) xs) ≡ 0 → times s (slots_seen xs) ≡ 0
times_any s [] e = refl
times_any s (x ∷ xs) e = count_cons (same_slot s) x.slot (slots_seen xs) ∙ go (same_slot s x.slot) (times_any s xs) e
  where
    go : (b : Bool) → (one_if (list_any (λ (e : Entry). same_slot s e.slot) xs) ≡ 0 → times s (slots_seen xs) ≡ 0) →
        one_if (b || list_any (λ (e : Entry). same_slot s e.slot) xs) ≡ 0 → one_if b + times s (slots_seen xs) ≡ 0
    go true f l = absurd (omega arith)
    go false f l = ap (λ n. 0 + n) (f l)

any_times : (s : Slot) (xs : List Entry) → list_any (λ (e : Entry). same_slot s e.slot) xs ≡ true → 0 < times s (slots_seen xs)
any_times s [] e = absurd (false≢true e)
any_times s (x ∷ xs) e = subst (λ n. 0 < n) (sym (count_cons (same_slot s) x.slot (slots_seen xs))) (go (same_slot s x.slot) (any_times s xs) e)
  where
    go : (b : Bool) → (list_any (λ (e : Entry). same_slot s e.slot) xs ≡ true → 0 < times s (slots_seen xs)) →
        (b || list_any (λ (e : Entry). same_slot s e.slot) xs) ≡ true → 0 < one_if b + times s (slots_seen xs)
    go true f l = omega arith
    go false f l = let k = f l in omega arith

pub lent_any : (v : Listing) (st : State) (count : Slot → ℕ) → Located v st count → (s : Slot) →
    same_place OnLoan (st.place s) ≡ list_any (λ (e : Entry). same_slot s e.slot) v.lent
lent_any v st count h s = go (same_place OnLoan (st.place s)) (sym (lent_named (owner_of st s) (st.place s)))
    (list_any (λ (e : Entry). same_slot s e.slot) v.lent) refl
  where
    go : (x : Bool) → x ≡ is_list Loans (list_of st s) → (y : Bool) → list_any (λ (e : Entry). same_slot s e.slot) v.lent ≡ y → x ≡ y
    go true k true e = refl
    go false k false e = refl
    go true k false e =
        let z : times s (slots_seen v.lent) ≡ 0 = times_any s v.lent (ap one_if e) in
        let y : times s (slots_seen v.lent) ≡ 1 = h.in_place Loans s ∙ ap one_if (sym k) in
        absurd (omega arith)
    go false k true e =
        let z : 0 < times s (slots_seen v.lent) = any_times s v.lent e in
        let y : times s (slots_seen v.lent) ≡ 0 = h.in_place Loans s ∙ ap one_if (sym k) in
        absurd (omega arith)

-- ---- chunks

some_below : {A : Type 0} (xs : List A) (k : ℕ) → is_some (slice_get xs k) ≡ nat_lt k (length xs)
some_below [] k = grind (arith, nat_tests)
some_below (x ∷ xs) zero = sym (lt-ltb zero (length (x ∷ xs)) (omega arith))
some_below (x ∷ xs) (suc k) = some_below xs k ∙ grind (arith, nat_tests)

all_below : (n m a : ℕ) → a ≤ n → list_all (λ k. nat_lt k n) (range_with_len a m) ≡ nat_le (a + m) n
all_below n zero a l = grind (arith, nat_tests)
all_below n (suc m) a l = elim (cases_lt a n) as (λ _. list_all (λ k. nat_lt k n) (range_with_len a (suc m)) ≡ nat_le (a + suc m) n) [
  | inl p ↦ ap (λ b. b && list_all (λ k. nat_lt k n) (range_with_len (a + 1) m)) (lt-ltb a n p)
      ∙ (all_below n m (a + 1) (omega arith) ∙ ap (λ k. nat_le k n) (omega arith))
  | inr p ↦ ap (λ b. b && list_all (λ k. nat_lt k n) (range_with_len (a + 1) m)) (le-ltb a n p) ∙ grind (arith, nat_tests)
]

pub drawn_all : (v : Listing) (st : State) (count : Slot → ℕ) → Located v st count →
    list_all (λ k. is_some (st.drawn k)) (range_with_len 0 st.chunks) ≡ nat_le v.chunks (length v.drawn)
drawn_all v st count h =
    ap₂ (λ n (f : ℕ → Bool). list_all f (range_with_len 0 n)) (sym h.frame.chunks)
    (λ i k. (ap is_some (sym (h.frame.drawn k)) ∙ some_below v.drawn k) i)
    ∙ (all_below (length v.drawn) v.chunks 0 zero-le ∙ ap (λ n. nat_le n (length v.drawn)) (zero-add v.chunks))

-- ---- the conditions

module _ (v : Listing) (st : State) (count : Slot → ℕ) (h : Located v st count) where
  no_desk_is : (a : ℕ) → lacks_desk st a ≡ nat_le (length v.desks) a
  no_desk_is a = ap (λ n. nat_le n a) (sym h.frame.desks)

  idle_is : (a : ℕ) → is_none (st.holder a) ≡ is_none (desk_listing v a).worker
  idle_is a = ap is_none (sym (h.frame.holder a))

  pub home_any : (a c : ℕ) → has_home st a c ≡ list_any (λ (e : Entry). e.class == c) (desk_listing v a).home
  home_any a c = part_any st count (HomeOf a) (λ e. e.class == c) (λ s. class_of st s == c) (home_with st a c) (desk_listing v a).home h.sound
      (λ k d l. ap (λ x. x == c) (h.homes a k d l).1) (λ s. h.in_place (HomeOf a) s) (λ s. home_with_is st a c s)

  pub cache_any : (a : ℕ) (p : ℕ → Bool) → list_any (λ s. is_at st (InCache a) s && p (owner_of st s)) (slots st) ≡ list_any (λ (e : Entry). p e.owner)
      (desk_listing v a).cache
  cache_any a p = part_any st count (CacheOf a) (λ e. p e.owner) (λ s. p (owner_of st s)) (λ s. is_at st (InCache a) s && p (owner_of st s))
      (desk_listing v a).cache h.sound
      (λ k d l. ap p (h.cached a k d l).0) (λ s. h.in_place (CacheOf a) s)
      (λ s. ap (λ b. b && p (owner_of st s)) (sym (in_cache_is a (owner_of st s) (st.place s))))

  cache_some : (a : ℕ) → list_any (is_at st (InCache a)) (slots st) ≡ list_any (λ (e : Entry). true) (desk_listing v a).cache
  cache_some a = any_same (is_at st (InCache a)) (λ s. is_at st (InCache a) s && true) (slots st) (λ s. and_true (is_at st (InCache a) s)) ∙ cache_any a (λ o. true)
    where
      and_true : (b : Bool) → b ≡ (b && true)
      and_true true = refl
      and_true false = refl

  bucket_any : (a t : ℕ) → list_any (in_bucket st a t) (slots st) ≡ list_any (λ (e : Entry). goes_by v.digits a t e.owner) (desk_listing v a).cache
  bucket_any a t = cache_any a (λ o. nat_lt (near st a t) (near st o t))
      ∙ ap (λ w. list_any (λ (e : Entry). goes_by w a t e.owner) (desk_listing v a).cache) (sym h.frame.digits)

  owner_any : (a t : ℕ) → list_any (λ s. in_bucket st a t s && (owner_of st s == t)) (slots st)
      ≡ list_any (λ (e : Entry). goes_by v.digits a t e.owner && (e.owner == t)) (desk_listing v a).cache
  owner_any a t =
      any_same (λ s. in_bucket st a t s && (owner_of st s == t)) (λ s. is_at st (InCache a) s && (nat_lt (near st a t)
      (near st (owner_of st s) t) && (owner_of st s == t))) (slots st)
      (λ s. apart (is_at st (InCache a) s) (nat_lt (near st a t) (near st (owner_of st s) t)) (owner_of st s == t))
      ∙ (cache_any a (λ o. nat_lt (near st a t) (near st o t) && (o == t))
      ∙ ap (λ w. list_any (λ (e : Entry). goes_by w a t e.owner && (e.owner == t)) (desk_listing v a).cache) (sym h.frame.digits))
    where
      apart : (x y z : Bool) → ((x && y) && z) ≡ (x && (y && z))
      apart true y z = refl
      apart false y z = refl

  one : Bool → Refusal → List (Bool × Refusal) → List (Bool × Refusal)
  one b r cs = (b, r) ∷ cs

  pub conditions_agree : (q : Request) → conditions st q ≡ conditions_seen v q
  conditions_agree (Adopt a x) = ap₂ (λ (b c : Bool). (b, NoDesk) ∷ (c, Held) ∷ []) (no_desk_is a) (ap is_some (sym (h.frame.holder a)))
  conditions_agree (Retire a) =
      ap₂ ◌∷◌ (ap (λ b. (b, NoDesk)) (no_desk_is a)) (ap₂ ◌∷◌ (ap (λ b. (b, Idle)) (idle_is a))
      (ap₂ ◌∷◌ (ap (λ b. (b, Unsettled)) (cache_some a))
      (ap (λ b. (b, Unsettled) ∷ []) (queued_any v st count h (λ w. (a == w.sender) && not w.linked)))))
  conditions_agree (Claim a c) =
      ap₂ ◌∷◌ (ap (λ b. (b, NoDesk)) (no_desk_is a)) (ap₂ ◌∷◌ (ap (λ b. (b, Idle)) (idle_is a))
      (ap₂ ◌∷◌ (ap (λ (s : Scheme). (nat_le (classes_of (profile_of s.bits)) c, BadClass)) (sym h.frame.digits))
      (ap₂ ◌∷◌ (ap (λ b. (b, NotNeeded)) (home_any a c)) (ap (λ b. (b, NoChunk) ∷ []) (drawn_all v st count h)))))
  conditions_agree (Alloc a n) =
      ap₂ ◌∷◌ (ap (λ b. (b, NoDesk)) (no_desk_is a)) (ap₂ ◌∷◌ (ap (λ b. (b, Idle)) (idle_is a))
      (ap₂ ◌∷◌ (ap (λ (s : Scheme). (nat_lt (largest_of (profile_of s.bits)) n, TooLarge)) (sym h.frame.digits))
      (ap (λ b. (not b, NeedChunk) ∷ []) (home_any a (least_class (profile_at st) n)
      ∙ ap (λ (s : Scheme). list_any (λ (e : Entry). e.class == least_class (profile_of s.bits) n) (desk_listing v a).home) (sym h.frame.digits)))))
  conditions_agree (Free a pair) =
      ap₂ ◌∷◌ (ap (λ b. (b, NoDesk)) (no_desk_is a)) (ap₂ ◌∷◌ (ap (λ b. (b, Idle)) (idle_is a))
      (ap (λ b. (not b, NotLent) ∷ []) (lent_any v st count h (slot_named pair))))
  conditions_agree (Send a t) =
      ap₂ ◌∷◌ (ap (λ b. (b, NoDesk)) (ap₂ ◌||◌ (no_desk_is a) (no_desk_is t)))
      (ap₂ ◌∷◌ (ap (λ b. (b, Idle)) (idle_is a)) (ap (λ cs. (a == t, ToSelf) ∷ cs)
      (ap₂ ◌∷◌ (ap (λ b. (not b, NothingFor)) (bucket_any a t)) (ap₂ ◌∷◌ (ap (λ b. (not b, NotAnOwner)) (owner_any a t))
      (ap (λ n. (nat_le (2 ^ 32) n, Spent) ∷ []) (sym h.frame.next))))))
  conditions_agree (Link n) = ap (λ b. (not b, NoBatch) ∷ []) (queued_any v st count h (is_unlinked n))
  conditions_agree (Take b) =
      ap₂ ◌∷◌ (ap (λ b. (b, NoDesk)) (no_desk_is b)) (ap₂ ◌∷◌ (ap (λ b. (b, Idle)) (idle_is b))
      (ap (λ ws. (not (front_ready ws), Nothing) ∷ []) (sym (h.frame.inboxes b))))

  pub refusal_agrees : (q : Request) → refusal st q ≡ refusal_seen v q
  refusal_agrees q = ap first (conditions_agree q)

-- a refused request
pub refused : (v : Listing) (q : Request) (r : Refusal) → refusal_seen v q ≡ Some r → LocatedStep v q (Err r) v
refused v q r e st count h = (st, (inl (refusal_agrees v st count h q ∙ e), refl), h)

-- want of memory
pub no_memory : (v : Listing) (q : Request) → refusal_seen v q ≡ None → may_grow q ≡ true → LocatedStep v q (Err NoMemory) v
no_memory v q e g st count h = (st, (inr (refusal_agrees v st count h q ∙ e, g, refl), refl), h)
