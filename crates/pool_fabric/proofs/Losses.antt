-- Where no slot was freed more often than it was lent, each slot of a drawn chunk is found at most once, and no other.
use Rattle.std.proofs.Common.{◌≡◌, ◌≢◌, ◌⊎◌, ℕ, zero, suc, ◌+◌, ◌<◌, ◌≤◌, Bool, true, false, cond, List, [], ◌∷◌, length, map, refl, sym, ap, ap₂, ◌∙◌, subst, inl, inr, ⊎_elim, arith, IsPermutation, eqb, Some, None}
use Rattle.std.proofs.lemmas.Bool.{cases_lt}
use Rattle.std.proofs.lemmas.Bool.Decides.{eqb_tells}
use Rattle.std.specs.Prelude.{◌&&◌, Option, Result, Ok, Err, slice_get}
use Rattle.std.proofs.lemmas.List.Recursion.{is_count_by}
use Rattle.region_cut.specs.declared.slot.Slot.{Slot}
use Rattle.region_cut.specs.declared.part.Part.{Part}
use Rattle.region_cut.specs.Carved.{Carved}
use Rattle.region_cut.specs.Classes.{slots_of}
use Rattle.region_cut.specs.Slots.{times, same_slot}
use Rattle.slot_chain.specs.Buffer.{Buffer}
use Rattle.slot_chain.specs.Slots.{slot_of}
use Rattle.digit_route.specs.States.{BatchState}
use Rattle.pool_desk.specs.Homes.{slot_at}
use Rattle.pool_desk.specs.Slots.{places}
use Rattle.pool_desk.specs.Desks.{DeskState}
use Rattle.slot_audit.specs.Audit.{IsDrawnSlot, slots_for, class_noted}
use Rattle.slot_audit.specs.declared.fault.Fault.{Fault}
use Rattle.slot_audit.specs.declared.fault.Fault.TheVariants.{Stranger, Doubled, Missing, NoMemory}
use Rattle.slot_balance.specs.Weights.{weigh}
use Rattle.pool_fabric.specs.Accounts.{of_buffer, of_batch, of_chunk, of_number, of_part, held, owed, drawn_by}
use Rattle.pool_fabric.specs.Audited.{Audited, listed, held_slots, batch_slots, slots_found}
use Rattle.pool_fabric.specs.Stocks.{AreApart}
use Rattle.pool_fabric.specs.Whole.{IsWhole, FreesNoMore, AreNoted}
use Rattle.pool_fabric.specs.Losses.{is_number, AreOnce, FindsAtMostOnce, times_among, TellsLosses, TellsNone}
use Rattle.slot_balance.proofs.Sums.{weigh-append, weigh-map, weigh-ones, weigh-permutation}

-- 1 of one slot, and else 0
abbrev pub one : Slot → Slot → ℕ
one s r = cond (same_slot s r) 1 0

-- 0 of one slot, and else 1
abbrev others : Slot → Slot → ℕ
others s r = cond (same_slot s r) 0 1

counted : (b : Bool) (n : ℕ) → cond b 1 0 + n ≡ cond b (1 + n) n
counted true n = refl
counted false n = omega arith

pub times_weigh : (s : Slot) (xs : List Slot) → weigh (one s) xs ≡ times s xs
times_weigh s xs = is_count_by (weigh (one s)) (same_slot s) refl (λ x rest. counted (same_slot s x) (weigh (one s) rest)) xs

pub times-permutation : (s : Slot) (xs ys : List Slot) → IsPermutation xs ys → times s ys ≡ times s xs
times-permutation s xs ys p = sym (times_weigh s ys) ∙ weigh-permutation (one s) xs ys p ∙ times_weigh s xs

weigh-same : {A : Type 0} (f g : A → ℕ) → ((x : A) → f x ≡ g x) → (xs : List A) → weigh f xs ≡ weigh g xs
weigh-same f g e [] = refl
weigh-same f g e (x ∷ xs) = let a = e x in let i = weigh-same f g e xs in omega arith

weigh-listed : {A : Type 0} (h : Slot → ℕ) (f : A → List Slot) (xs : List A) → weigh h (listed f xs) ≡ weigh (λ x. weigh h (f x)) xs
weigh-listed h f [] = refl
weigh-listed h f (x ∷ xs) = let a = weigh-append h (f x) (listed f xs) in let i = weigh-listed h f xs in omega arith

weigh_held : (h : Slot → ℕ) (d : DeskState) → weigh h (held_slots d) ≡ held h d
weigh_held h d =
    let a = weigh-append h (map slot_at d.home) (map slot_of d.cached) in
    let b = weigh-map h slot_at d.home in
    let c = weigh-map h slot_of d.cached in
    omega arith

-- what is listed weighs what desks and batches have
weigh_found : (h : Slot → ℕ) (desks : List DeskState) (batches : List BatchState) → weigh h (slots_found desks batches) ≡ weigh (held h) desks + weigh (of_batch h) batches
weigh_found h desks batches =
    let a = weigh-append h (listed held_slots desks) (listed batch_slots batches) in
    let b = weigh-listed h held_slots desks in
    let c = weigh-same (λ d. weigh h (held_slots d)) (held h) (weigh_held h) desks in
    let d = weigh-listed h batch_slots batches in
    let e = weigh-same (λ (x : BatchState). weigh h (batch_slots x)) (of_batch h) (λ x. weigh-map h slot_of x.items) batches in
    omega arith

-- one slot among those of a chunk

-- a slot is that one, or it is another
one_or_not : (s r : Slot) → ((one s r ≡ 1) × (s.chunk ≡ r.chunk) × (s.index ≡ r.index)) ⊎ ((one s r ≡ 0) × (s.chunk ≡ r.chunk → s.index ≡ r.index → ⊥))
one_or_not s r =
    ⊎_elim
    (λ (c : (eqb s.chunk r.chunk ≡ true) × (s.chunk ≡ r.chunk)). ⊎_elim
    (λ (i : (eqb s.index r.index ≡ true) × (s.index ≡ r.index)). inl (ap₂ (λ a b. cond (a && b) 1 0) c.0 i.0, c.1, i.1))
    (λ (i : (eqb s.index r.index ≡ false) × (s.index ≢ r.index)). inr (ap₂ (λ a b. cond (a && b) 1 0) c.0 i.0, λ p q. i.1 q))
    (eqb_tells s.index r.index))
    (λ (c : (eqb s.chunk r.chunk ≡ false) × (s.chunk ≢ r.chunk)). ⊎_elim
    (λ (i : (eqb s.index r.index ≡ true) × (s.index ≡ r.index)). inr (ap₂ (λ a b. cond (a && b) 1 0) c.0 i.0, λ p q. c.1 p))
    (λ (i : (eqb s.index r.index ≡ false) × (s.index ≢ r.index)). inr (ap₂ (λ a b. cond (a && b) 1 0) c.0 i.0, λ p q. c.1 p))
    (eqb_tells s.index r.index))
    (eqb_tells s.chunk r.chunk)

abbrev place : ℕ → ℕ → Slot
place c i = record { chunk = c; index = i }

elsewhere : (s : Slot) (c n i : ℕ) → s.chunk ≢ c → weigh (one s) (places c n i) ≡ 0
elsewhere s c zero i differs = refl
elsewhere s c (suc n) i differs =
    let rest = elsewhere s c n (i + 1) differs in
    ⊎_elim (λ (h : (one s (place c i) ≡ 1) × (s.chunk ≡ c) × (s.index ≡ i)). absurd (differs h.1))
    (λ (h : (one s (place c i) ≡ 0) × (s.chunk ≡ c → s.index ≡ i → ⊥)). let z = h.0 in omega arith)
    (one_or_not s (place c i))

before : (s : Slot) (c n i : ℕ) → s.index < i → weigh (one s) (places c n i) ≡ 0
before s c zero i l = refl
before s c (suc n) i l =
    let rest = before s c n (i + 1) (omega arith) in
    ⊎_elim (λ (h : (one s (place c i) ≡ 1) × (s.chunk ≡ c) × (s.index ≡ i)). absurd (let e = h.2 in omega arith))
    (λ (h : (one s (place c i) ≡ 0) × (s.chunk ≡ c → s.index ≡ i → ⊥)). let z = h.0 in omega arith)
    (one_or_not s (place c i))

behind : (s : Slot) (c n i : ℕ) → i + n ≤ s.index → weigh (one s) (places c n i) ≡ 0
behind s c zero i l = refl
behind s c (suc n) i l =
    let rest = behind s c n (i + 1) (omega arith) in
    ⊎_elim (λ (h : (one s (place c i) ≡ 1) × (s.chunk ≡ c) × (s.index ≡ i)). absurd (let e = h.2 in omega arith))
    (λ (h : (one s (place c i) ≡ 0) × (s.chunk ≡ c → s.index ≡ i → ⊥)). let z = h.0 in omega arith)
    (one_or_not s (place c i))

at_most : (s : Slot) (c n i : ℕ) → weigh (one s) (places c n i) ≤ 1
at_most s c zero i = omega arith
at_most s c (suc n) i =
    ⊎_elim (λ (h : (one s (place c i) ≡ 1) × (s.chunk ≡ c) × (s.index ≡ i)). let z = h.0 in let e = h.2 in let rest = before s c n (i + 1) (omega arith) in omega arith)
    (λ (h : (one s (place c i) ≡ 0) × (s.chunk ≡ c → s.index ≡ i → ⊥)). let z = h.0 in let rest = at_most s c n (i + 1) in omega arith)
    (one_or_not s (place c i))

at_least : (s : Slot) (c n i : ℕ) → s.chunk ≡ c → i ≤ s.index → s.index < i + n → 1 ≤ weigh (one s) (places c n i)
at_least s c zero i e low high = absurd (omega arith)
at_least s c (suc n) i e low high =
    ⊎_elim (λ (h : (one s (place c i) ≡ 1) × (s.chunk ≡ c) × (s.index ≡ i)). let z = h.0 in omega arith)
    (λ (h : (one s (place c i) ≡ 0) × (s.chunk ≡ c → s.index ≡ i → ⊥)). ⊎_elim
    (λ (l : i < s.index). let rest = at_least s c n (i + 1) e (omega arith) (omega arith) in omega arith)
    (λ (l : s.index ≤ i). absurd (h.1 e (omega arith)))
    (cases_lt i s.index))
    (one_or_not s (place c i))

-- a slot among those of drawn chunks

chunk_le : (s : Slot) (c : Carved) → of_chunk (one s) c ≤ is_number s.chunk c.chunk
chunk_le s c =
    ⊎_elim (λ (h : (eqb c.chunk s.chunk ≡ true) × (c.chunk ≡ s.chunk)). let m = at_most s c.chunk (slots_of c.class) 0 in let e : is_number s.chunk c.chunk ≡ 1 = ap (λ (b : Bool). cond b 1 0) h.0 in omega arith)
    (λ (h : (eqb c.chunk s.chunk ≡ false) × (c.chunk ≢ s.chunk)). let z = elsewhere s c.chunk (slots_of c.class) 0 (λ p. h.1 (sym p)) in omega arith)
    (eqb_tells c.chunk s.chunk)

chunk_has : (s : Slot) (c : Carved) → 0 < of_chunk (one s) c → (s.chunk ≡ c.chunk) × (s.index < slots_of c.class)
chunk_has s c some_of =
    ⊎_elim (λ (h : (eqb s.chunk c.chunk ≡ true) × (s.chunk ≡ c.chunk)). ⊎_elim
    (λ (l : s.index < slots_of c.class). (h.1, l))
    (λ (l : slots_of c.class ≤ s.index). absurd (let z = behind s c.chunk (slots_of c.class) 0 (omega arith) in omega arith))
    (cases_lt s.index (slots_of c.class)))
    (λ (h : (eqb s.chunk c.chunk ≡ false) × (s.chunk ≢ c.chunk)). absurd (let z = elsewhere s c.chunk (slots_of c.class) 0 h.1 in omega arith))
    (eqb_tells s.chunk c.chunk)

weigh-le : {A : Type 0} (f g : A → ℕ) → ((x : A) → f x ≤ g x) → (xs : List A) → weigh f xs ≤ weigh g xs
weigh-le f g e [] = omega arith
weigh-le f g e (x ∷ xs) = let a = e x in let i = weigh-le f g e xs in omega arith

some_item : {A : Type 0} (f : A → ℕ) (xs : List A) → 0 < weigh f xs → (k : ℕ) × (x : A) × (slice_get xs k ≡ Some x) × (0 < f x)
some_item f [] some_of = absurd (omega arith)
some_item f (x ∷ xs) some_of =
    ⊎_elim (λ (l : 0 < f x). (0, x, refl, l))
    (λ (l : f x ≤ 0). let i = some_item f xs (omega arith) in (suc i.0, i.1, i.2, i.3))
    (cases_lt 0 (f x))

item_le : {A : Type 0} (f : A → ℕ) (xs : List A) (k : ℕ) (x : A) → slice_get xs k ≡ Some x → f x ≤ weigh f xs
item_le f [] k x e = absurd (cc)
item_le f (y ∷ ys) zero x e = let same : y ≡ x = cc in let h = ap f same in omega arith
item_le f (y ∷ ys) (suc k) x e = let i = item_le f ys k x e in omega arith

-- parts of which no two are of one chunk

none_of : (k : ℕ) (ps : List Part) → ((j : ℕ) (q : Part) → slice_get ps j ≡ Some q → q.chunk ≢ k) → weigh (of_part (is_number k)) ps ≡ 0
none_of k [] others_only = refl
none_of k (p ∷ ps) others_only =
    let rest = none_of k ps (λ j q e. others_only (suc j) q e) in
    ⊎_elim (λ (h : (eqb p.chunk k ≡ true) × (p.chunk ≡ k)). absurd (others_only 0 p refl h.1))
    (λ (h : (eqb p.chunk k ≡ false) × (p.chunk ≢ k)). let e : is_number k p.chunk ≡ 0 = ap (λ (b : Bool). cond b 1 0) h.0 in omega arith)
    (eqb_tells p.chunk k)

pub apart_once : (k : ℕ) (ps : List Part) → AreApart ps → weigh (of_part (is_number k)) ps ≤ 1
apart_once k [] a = omega arith
apart_once k (p ∷ ps) a =
    ⊎_elim (λ (h : (eqb p.chunk k ≡ true) × (p.chunk ≡ k)).
    let e : is_number k p.chunk ≡ 1 = ap (λ (b : Bool). cond b 1 0) h.0 in
    let rest = none_of k ps (λ j q at same. absurd (let z = a.each 0 (suc j) p q refl at (h.1 ∙ sym same) in omega arith)) in
    omega arith)
    (λ (h : (eqb p.chunk k ≡ false) × (p.chunk ≢ k)).
    let e : is_number k p.chunk ≡ 0 = ap (λ (b : Bool). cond b 1 0) h.0 in
    let rest = apart_once k ps (record { each = λ i j x y f g same. let z = a.each (suc i) (suc j) x y f g same in omega arith }) in
    omega arith)
    (eqb_tells p.chunk k)

module _ (desks : List DeskState) (batches : List BatchState) (lent freed : List Buffer) (parts : List Part) (chunks : List ℕ) (drawn : List (Option ℕ))
    (whole : IsWhole desks batches lent freed parts chunks) (noted : AreNoted desks drawn) (bounded : FreesNoMore lent freed) where
  abbrev all_drawn : (Slot → ℕ) → ℕ
  all_drawn h = weigh (owed h) desks

  abbrev found : List Slot
  found = slots_found desks batches

  drawn_once : AreOnce chunks → (s : Slot) → all_drawn (one s) ≤ 1
  drawn_once once s =
      let a = weigh-le (owed (one s)) (drawn_by (is_number s.chunk)) (λ (d : DeskState). weigh-le (of_chunk (one s)) (of_number (is_number s.chunk)) (chunk_le s) d.drawn) desks in
      let b = whole.chunks (is_number s.chunk) in
      let c = once s.chunk in
      omega arith

  is_drawn : (s : Slot) → 0 < all_drawn (one s) → IsDrawnSlot drawn s
  is_drawn s some_of =
      let d = some_item (owed (one s)) desks some_of in
      let c = some_item (of_chunk (one s)) d.1.drawn d.3 in
      let h = chunk_has s c.1 c.3 in
      let n = noted.all s.chunk c.1.class (record { number = d.0; desk = d.1; is_one = d.2; place = c.0; part = c.1; drawn = c.2; chunk_is = sym h.0; class_is = refl }) in
      subst (λ o. s.index < slots_for o) (sym n) h.1

  there : (s : Slot) (o : Option ℕ) → class_noted drawn s.chunk ≡ o → s.index < slots_for o → 1 ≤ all_drawn (one s)
  there s None e l = absurd (omega arith)
  there s (Some class) e l =
      let i = noted.only s.chunk class e in
      let a = at_least s i.part.chunk (slots_of i.part.class) 0 (sym i.chunk_is) (omega arith) (subst (λ k. s.index < 0 + slots_of k) (sym i.class_is) (omega arith)) in
      let b = item_le (of_chunk (one s)) i.desk.drawn i.place i.part i.drawn in
      let c = item_le (owed (one s)) desks i.number i.desk i.is_one in
      omega arith

  -- no more is found than was drawn
  found_le : (h : Slot → ℕ) → weigh h found ≤ all_drawn h
  found_le h = let a = weigh_found h desks batches in let b = whole.slots h in let c = bounded h in omega arith

  pub at_most_once : AreOnce chunks → FindsAtMostOnce drawn found
  at_most_once apart = record {
    once = λ s. let a = times_weigh s found in let b = found_le (one s) in let c = drawn_once apart s in omega arith;
    no_other = λ s strange.
        let a = times_weigh s found in
        let b = found_le (one s) in
        ⊎_elim (λ (l : 0 < all_drawn (one s)). absurd (strange (is_drawn s l))) (λ (l : all_drawn (one s) ≤ 0). omega arith) (cases_lt 0 (all_drawn (one s)));
  }

  among : (s : Slot) (bs : List Buffer) → weigh (of_buffer (one s)) bs ≡ times_among s bs
  among s bs = sym (weigh-map (one s) slot_of bs) ∙ times_weigh s (map slot_of bs)

  pub tells_losses : FindsAtMostOnce drawn found → (r : Result (Unit {0}) Fault) → Audited found drawn r → TellsLosses lent freed r
  tells_losses most (Ok u) a = tt
  tells_losses most (Err NoMemory) a = tt
  tells_losses most (Err (Stranger s)) a = let t = times-permutation s found a.found a.each in let z = most.no_other s a.is.0.0 in let w = a.is.0.1 in omega arith
  tells_losses most (Err (Doubled s)) a = let t = times-permutation s found a.found a.each in let z = most.once s in let w = a.is.1.0.1 in omega arith
  tells_losses most (Err (Missing s)) a =
      let t = times-permutation s found a.found a.each in
      let w = a.is.2.0.1 in
      let o = there s (class_noted drawn s.chunk) refl a.is.2.0.0 in
      let f = times_weigh s found in
      let g = weigh_found (one s) desks batches in
      let b = whole.slots (one s) in
      let l = among s lent in
      let r = among s freed in
      omega arith

  with_the_others : (s : Slot) (bs : List Buffer) → weigh (of_buffer (one s)) bs + weigh (of_buffer (others s)) bs ≡ length bs
  with_the_others s [] = refl
  with_the_others s (b ∷ bs) = let i = with_the_others s bs in let e = in_all (same_slot s b.slot) in omega arith
    where
      in_all : (t : Bool) → cond t 1 0 + cond t 0 1 ≡ 1
      in_all true = refl
      in_all false = refl

  -- as many were freed as were lent: so each slot as often
  pub tells_none : length freed ≡ length lent → (r : Result (Unit {0}) Fault) → TellsLosses lent freed r → TellsNone r
  tells_none same (Ok u) t = tt
  tells_none same (Err NoMemory) t = tt
  tells_none same (Err (Stranger s)) t = t
  tells_none same (Err (Doubled s)) t = t
  tells_none same (Err (Missing s)) t =
      let a = with_the_others s lent in
      let b = with_the_others s freed in
      let c = bounded (others s) in
      let l = among s lent in
      let r = among s freed in
      omega arith

  -- as many slots are missing as buffers were lent and not freed
  pub losses_counted : length found + length lent ≡ all_drawn (λ _. 1) + length freed
  losses_counted =
      let a = weigh_found (λ _. 1) desks batches in
      let b = whole.slots (λ _. 1) in
      let c = weigh-ones found in
      let d = weigh-ones lent in
      let e = weigh-ones freed in
      omega arith
