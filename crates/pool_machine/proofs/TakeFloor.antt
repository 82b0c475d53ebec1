-- A take, over the floor's lists.
use Rattle.std.proofs.Common.{◌≡◌, ℕ, zero, suc, ◌+◌, ◌<◌, Bool, true, false, ◌&&◌, not, ◌==◌, cond, List, [], ◌∷◌, ◌++◌, map, filter, length, set, get_or, flat_map, All, Option, Some, None, Ok, option_map, if◌then◌else◌, IsPermutation, refl, sym, ap, ap₂, ◌∙◌, subst, arith, inl, inr, length-set, get_or-set_same, get_or-set_other}
use Rattle.std.proofs.lemmas.Bool.{eqb-true, eqb-false, eq-eqb, ne_eqb, leb-false}
use Rattle.std.proofs.lemmas.List.{map-append}
use Rattle.std.proofs.lemmas.List.Elements.{All-append, All-map, All-filter, filter_passes, All-tail}
use Rattle.std.proofs.lemmas.List.Sorted.{All-permutation}
use Rattle.region_cut.specs.declared.slot.Slot.{Slot}
use Rattle.pool_machine.specs.declared.request.Request.TheVariants.{Take}
use Rattle.pool_machine.specs.declared.reply.Reply.TheVariants.{Counts}
use Rattle.region_cut.specs.Slots.{same_slot, times}
use Rattle.pool_machine.specs.State.{State, Waiting, Place, AtHome, OnLoan, InCache, InBatch, owner_of, slots, inbox, same_place, slots_at}
use Rattle.pool_machine.specs.Refusals.{refusal}
use Rattle.pool_machine.specs.Steps.{after_take, front_of}
use Rattle.pool_machine.specs.Sound.{Member, Rising}
use Rattle.pool_machine.specs.Listing.{slots_seen, Listing, DeskListing, Entry, BatchListing, desk_listing, Labelled, Counted}
use Rattle.pool_machine.proofs.Located.{inbox_listing, ListName, HomeOf, Loans, CacheOf, BatchOf, same_list, list_at, list_of, is_list, slots_in, if_numbered, Located, LocatedStep}
use Rattle.pool_machine.proofs.Basics.{none_holds, filter_member}
use Rattle.pool_machine.proofs.Enumerate.{count_append}
use Rattle.pool_machine.proofs.FloorSteps.{with_desk, desk_here, desk_other, desk_keeps}
use Rattle.pool_machine.proofs.SendStep.{seen_permuted}
use Rattle.pool_machine.proofs.TakeStep.{TakeMoves, taken_in_place}
use Rattle.pool_machine.proofs.Parts.{part_times, part_length}
use Rattle.pool_machine.proofs.Keeps.{take_step}
use Rattle.pool_machine.proofs.Batches.{same_number, row_member, waits_there, row_rises}
use Rattle.pool_machine.proofs.Places.{cache_place, queued_place, All-both}
use Rattle.pool_machine.proofs.Refusals.{refusal_seen, refusal_agrees}
use Rattle.pool_machine.proofs.Words.{as_waiting, front_number}

abbrev pub passed_on : Entry → Entry
passed_on e = record e { forwards = e.forwards + 1 }

-- what a take does to the floor's lists: the front batch goes, its own buffers go home, the others into the cache
pub record TakeEdits (v : Listing) (b : ℕ) (w : BatchListing) (rest : List BatchListing) (d : DeskListing) : Type 0 where
  pub front : inbox_listing v b ≡ w ∷ rest
  pub worker : d.worker ≡ (desk_listing v b).worker
  pub home : IsPermutation (filter (λ (e : Entry). e.owner == b) w.buffers ++ (desk_listing v b).home) d.home
  pub cache : IsPermutation (map passed_on (filter (λ (e : Entry). not (e.owner == b)) w.buffers) ++ (desk_listing v b).cache) d.cache

abbrev pub after_taking : Listing → ℕ → List BatchListing → DeskListing → Listing
after_taking v b rest d = record (with_desk v b d) { inboxes = set v.inboxes b rest }

-- ---- lists

filter_swap : (p q : Waiting → Bool) (xs : List Waiting) → filter p (filter q xs) ≡ filter q (filter p xs)
filter_swap p q [] = refl
filter_swap p q (x ∷ xs) = go (p x) refl (q x) refl (filter_swap p q xs)
  where
    go : (b : Bool) → p x ≡ b → (c : Bool) → q x ≡ c → filter p (filter q xs) ≡ filter q (filter p xs) →
        filter p (cond c (x ∷ filter q xs) (filter q xs)) ≡ filter q (cond b (x ∷ filter p xs) (filter p xs))
    go true e true f h = ap (λ y. cond y (x ∷ filter p (filter q xs)) (filter p (filter q xs))) e
        ∙ (ap (λ ys. x ∷ ys) h ∙ sym (ap (λ y. cond y (x ∷ filter q (filter p xs)) (filter q (filter p xs))) f))
    go true e false f h = h ∙ sym (ap (λ y. cond y (x ∷ filter q (filter p xs)) (filter q (filter p xs))) f)
    go false e true f h = ap (λ y. cond y (x ∷ filter p (filter q xs)) (filter p (filter q xs))) e ∙ h
    go false e false f h = h

filter_all : (p : Waiting → Bool) (xs : List Waiting) → ((u : Waiting) → Member u xs → p u ≡ true) → filter p xs ≡ xs
filter_all p [] f = refl
filter_all p (x ∷ xs) f = ap (λ b. cond b (x ∷ filter p xs) (filter p xs)) (f x (inl refl)) ∙ ap (λ ys. x ∷ ys) (filter_all p xs (λ u m. f u (inr m)))

filter_twice : (p q : Slot → Bool) (xs : List Slot) → filter p (filter q xs) ≡ filter (λ x. q x && p x) xs
filter_twice p q [] = refl
filter_twice p q (x ∷ xs) = go (q x) (filter_twice p q xs)
  where
    go : (b : Bool) → filter p (filter q xs) ≡ filter (λ y. q y && p y) xs →
        filter p (cond b (x ∷ filter q xs) (filter q xs)) ≡ cond (b && p x) (x ∷ filter (λ y. q y && p y) xs) (filter (λ y. q y && p y) xs)
    go true e = ap (λ ys. cond (p x) (x ∷ ys) ys) e
    go false e = e

slots_passed : (xs : List Entry) → slots_seen (map passed_on xs) ≡ slots_seen xs
slots_passed [] = refl
slots_passed (x ∷ xs) = ap (λ ss. x.slot ∷ ss) (slots_passed xs)

module _ (s : Slot) (n : ℕ) where
  row_none : (ws : List BatchListing) → ((j : ℕ) (d : BatchListing) → j < length ws → (n == (get_or ws j d).batch.number) ≡ false) →
      times s (flat_map (if_numbered n) ws) ≡ 0
  row_none [] f = refl
  row_none (w ∷ ws) f =
      count_append (same_slot s) (if_numbered n w) (flat_map (if_numbered n) ws)
      ∙ ap₂ ◌+◌ (ap (λ (b : Bool). times s (if b then slots_seen w.buffers else [])) (f zero w (omega arith)))
      (row_none ws (λ j d l. f (suc j) d (omega arith)))

  rows_none : (is : List (List BatchListing)) → ((c j : ℕ) (d : BatchListing) → j < length (get_or is c []) →
      (n == (get_or (get_or is c []) j d).batch.number) ≡ false) →
      times s (flat_map (λ ws. flat_map (if_numbered n) ws) is) ≡ 0
  rows_none [] f = refl
  rows_none (ws ∷ is) f =
      count_append (same_slot s) (flat_map (if_numbered n) ws) (flat_map (λ us. flat_map (if_numbered n) us) is)
      ∙ ap₂ ◌+◌ (row_none ws (λ j d l. f zero j d l)) (rows_none is (λ c j d l. f (suc c) j d l))

  -- the front of one inbox goes
  popped : (w : BatchListing) (rest : List BatchListing) (is : List (List BatchListing)) (b : ℕ) → b < length is → get_or is b [] ≡ w ∷ rest →
      times s (flat_map (λ ws. flat_map (if_numbered n) ws) is) ≡ times s (if_numbered n w) + times s
      (flat_map (λ ws. flat_map (if_numbered n) ws) (set is b rest))
  popped w rest [] b l e = absurd (omega arith)
  popped w rest (ws ∷ is) zero l e =
      let x = count_append (same_slot s) (flat_map (if_numbered n) ws) (flat_map (λ us. flat_map (if_numbered n) us) is) in
      let y : times s (flat_map (if_numbered n) ws) ≡ times s (if_numbered n w) + times s (flat_map (if_numbered n) rest) =
      ap (λ us. times s (flat_map (if_numbered n) us)) e ∙ count_append (same_slot s) (if_numbered n w) (flat_map (if_numbered n) rest) in
      let z = count_append (same_slot s) (flat_map (if_numbered n) rest) (flat_map (λ us. flat_map (if_numbered n) us) is) in
      omega (arith, x, y, z)
  popped w rest (ws ∷ is) (suc b) l e =
      let x = count_append (same_slot s) (flat_map (if_numbered n) ws) (flat_map (λ us. flat_map (if_numbered n) us) is) in
      let y = popped w rest is b (omega arith) e in
      let z = count_append (same_slot s) (flat_map (if_numbered n) ws) (flat_map (λ us. flat_map (if_numbered n) us) (set is b rest)) in
      omega (arith, x, y, z)

pub queued_is : (n o : ℕ) (p : Option Place) → same_place (InBatch n) p ≡ is_list (BatchOf n) (option_map (list_at o) p)
queued_is n o None = refl
queued_is n o (Some AtHome) = refl
queued_is n o (Some OnLoan) = refl
queued_is n o (Some (InCache a)) = refl
queued_is n o (Some (InBatch m)) = refl

module _ (v : Listing) (st : State) (count : Slot → ℕ) (b : ℕ) (w : BatchListing) (rest : List BatchListing) (d : DeskListing)
    (h : Located v st count) (l : b < length v.desks) (f : TakeEdits v b w rest d) where
  abbrev new : Listing
  new = after_taking v b rest d

  abbrev next : State
  next = after_take st b

  abbrev risen : Slot → ℕ
  risen s = if same_place (InBatch (front_of st b)) (st.place s) && not (owner_of st s == b) then suc (count s) else count s

  bl : b < length v.inboxes
  bl = subst (λ n. b < n) (h.frame.desks ∙ sym h.frame.inbox_count) l

  row_is : inbox st b ≡ as_waiting w ∷ map as_waiting rest
  row_is = sym (h.frame.inboxes b) ∙ ap (map as_waiting) f.front

  number_is : front_of st b ≡ w.batch.number
  number_is = ap front_number row_is

  here : inbox_listing new b ≡ rest
  here = get_or-set_same v.inboxes b rest [] bl

  other : (c : ℕ) → (b == c) ≡ false → inbox_listing new c ≡ inbox_listing v c
  other c q = get_or-set_other v.inboxes b c rest [] (λ r. eqb-false b c q (sym r))

  rises : Rising (as_waiting w ∷ map as_waiting rest)
  rises = subst (λ ws. Rising ws) (ap (map as_waiting) f.front) (row_rises v st h.frame h.sound.rising b)

  nonempty : 0 < length (inbox_listing v b)
  nonempty = subst (λ ws. 0 < length ws) (sym f.front) (omega arith)

  first_is : get_or (inbox_listing v b) 0 w ≡ w
  first_is = ap (λ ws. get_or ws 0 w) f.front

  -- a batch of another desk has another number
  apart : (c : ℕ) → (b == c) ≡ false → (u : Waiting) → Member u (inbox st c) → (front_of st b == u.number) ≡ false
  apart c q u k = ne_eqb (front_of st b) u.number (λ r. eqb-false b c q (
      let x = waits_there v st h.frame h.sound.rising b 0 w nonempty in
      let y = filter_member (λ w. c == w.address) u st.waiting k in
      let z = same_number st.waiting _ u h.sound.rising x.0 y.0 (ap (λ (p : BatchListing). p.batch.number) first_is ∙ (sym number_is ∙ r)) in
      eqb-true b _ x.1 ∙ (ap (λ (w : Waiting). w.address) z ∙ sym (eqb-true c u.address y.1))))

  behind : (u : Waiting) → Member u (map as_waiting rest) → (front_of st b == u.number) ≡ false
  behind u k = ne_eqb (front_of st b) u.number (λ r. let z : w.batch.number < u.number = rises.0 u k in let e = number_is in absurd (omega arith))

  left_apart : (c j : ℕ) (p : BatchListing) → j < length (inbox_listing new c) → (front_of st b == (get_or (inbox_listing new c) j p).batch.number) ≡ false
  left_apart c j p = go (b == c) refl
    where
      go : (y : Bool) → (b == c) ≡ y → j < length (inbox_listing new c) → (front_of st b == (get_or (inbox_listing new c) j p).batch.number) ≡ false
      go true q = subst (λ z. j < length (inbox_listing new z) → (front_of st b == (get_or (inbox_listing new z) j p).batch.number) ≡ false)
          (eqb-true b c q)
          (subst (λ ws. j < length ws → (front_of st b == (get_or ws j p).batch.number) ≡ false) (sym here)
          (λ m. behind _ (row_member rest j p m)))
      go false q = subst (λ ws. j < length ws → (front_of st b == (get_or ws j p).batch.number) ≡ false) (sym (other c q))
          (λ m. apart c q _ (subst (λ ws. Member (as_waiting (get_or (inbox_listing v c) j p)) ws) (h.frame.inboxes c)
          (row_member (inbox_listing v c) j p m)))

  gone : (s : Slot) → times s (slots_in new (BatchOf (front_of st b))) ≡ 0
  gone s = rows_none s (front_of st b) (set v.inboxes b rest) left_apart

  batch_is : (s : Slot) → times s (slots_in v (BatchOf (front_of st b))) ≡ times s (slots_seen w.buffers)
  batch_is s =
      let x = popped s (front_of st b) w rest v.inboxes b bl f.front in
      let y : times s (if_numbered (front_of st b) w) ≡ times s (slots_seen w.buffers) =
      ap (λ (b : Bool). times s (if b then slots_seen w.buffers else [])) (eq-eqb (front_of st b) w.batch.number number_is) in
      let z : times s (flat_map (λ ws. flat_map (if_numbered (front_of st b)) ws) (set v.inboxes b rest)) ≡ 0 = gone s in
      omega (arith, x, y, z)

  buffers_counted : All (Counted st count) w.buffers
  buffers_counted = subst (λ (p : BatchListing). All (Counted st count) p.buffers) first_is (h.queued b 0 w nonempty)

  buffers_placed : All (λ (e : Entry). list_of st e.slot ≡ Some (BatchOf w.batch.number)) w.buffers
  buffers_placed = subst (λ (p : BatchListing). All (λ (e : Entry). list_of st e.slot ≡ Some (BatchOf p.batch.number)) p.buffers) first_is
      (queued_place v st count h b 0 w nonempty)

  owners : All (λ (e : Entry). e.owner ≡ owner_of st e.slot) w.buffers
  owners = λ k e m. (buffers_counted k e m).0

  home_times : (s : Slot) → times s (slots_seen (desk_listing (with_desk v b d) b).home)
      ≡ times s (slots_seen (desk_listing v b).home) + cond (owner_of st s == b) (times s (slots_in v (BatchOf (front_of st b)))) 0
  home_times s =
      let x = ap (λ (p : DeskListing). times s (slots_seen p.home)) (desk_here v b d l) in
      let y = seen_permuted s _ d.home f.home in
      let z = ap (times s) (map-append (λ (e : Entry). e.slot) (filter (λ (e : Entry). e.owner == b) w.buffers) (desk_listing v b).home)
      ∙ count_append (same_slot s) (slots_seen (filter (λ (e : Entry). e.owner == b) w.buffers)) (slots_seen (desk_listing v b).home) in
      let u = part_times st (λ o. o == b) s w.buffers owners ∙ ap (λ n. cond (owner_of st s == b) n 0) (sym (batch_is s)) in
      omega (arith, x, y, z, u)

  cache_times : (s : Slot) → times s (slots_seen (desk_listing (with_desk v b d) b).cache)
      ≡ times s (slots_seen (desk_listing v b).cache) + cond (owner_of st s == b) 0 (times s (slots_in v (BatchOf (front_of st b))))
  cache_times s =
      let x = ap (λ (p : DeskListing). times s (slots_seen p.cache)) (desk_here v b d l) in
      let y = seen_permuted s _ d.cache f.cache in
      let z = ap (times s) (map-append (λ (e : Entry). e.slot) (map passed_on (filter (λ (e : Entry). not (e.owner == b)) w.buffers))
      (desk_listing v b).cache)
      ∙ count_append (same_slot s) (slots_seen (map passed_on (filter (λ (e : Entry). not (e.owner == b)) w.buffers)))
      (slots_seen (desk_listing v b).cache) in
      let t = ap (times s) (slots_passed (filter (λ (e : Entry). not (e.owner == b)) w.buffers)) in
      let u = part_times st (λ o. not (o == b)) s w.buffers owners
      ∙ (turned (owner_of st s == b) (times s (slots_seen w.buffers)) ∙ ap (λ n. cond (owner_of st s == b) 0 n) (sym (batch_is s))) in
      omega (arith, x, y, z, t, u)
    where
      turned : (y : Bool) (n : ℕ) → cond (not y) n 0 ≡ cond y 0 n
      turned true n = refl
      turned false n = refl

  moves : TakeMoves (λ k s. times s (slots_in v k)) (λ k s. times s (slots_in new k)) (front_of st b) b (λ s. owner_of st s == b)
  moves = record {
    home = home_times;
    cache = cache_times;
    gone = gone;
    stay = λ k s x y z. stays k s x y z;
  }
    where
      stays : (k : ListName) (s : Slot) → same_list k (HomeOf b) ≡ false → same_list k (CacheOf b) ≡ false →
          same_list k (BatchOf (front_of st b)) ≡ false →
          times s (slots_in new k) ≡ times s (slots_in v k)
      stays (HomeOf c) s x y z = ap (λ (p : DeskListing). times s (slots_seen p.home))
          (desk_other v b c d (ne_eqb b c (λ q. eqb-false c b x (sym q))))
      stays Loans s x y z = refl
      stays (CacheOf c) s x y z = ap (λ (p : DeskListing). times s (slots_seen p.cache))
          (desk_other v b c d (ne_eqb b c (λ q. eqb-false c b y (sym q))))
      stays (BatchOf m) s x y z =
          let p = popped s m w rest v.inboxes b bl f.front in
          let q : times s (if_numbered m w) ≡ 0 = ap (λ (b : Bool). times s (if b then slots_seen w.buffers else []))
          (ap (λ n. m == n) (sym number_is) ∙ z) in
          omega (arith, p, q)

  -- ---- labels

  kept : (m : ListName) (s : Slot) → list_of st s ≡ Some m → same_list (BatchOf (front_of st b)) m ≡ false → count s ≡ risen s
  kept m s e g = ap (λ (x : Bool). if x && not (owner_of st s == b) then suc (count s) else count s)
      (sym (queued_is (front_of st b) (owner_of st s) (st.place s) ∙ (ap (is_list (BatchOf (front_of st b))) e ∙ g)))

  relabel : (m : ListName) → same_list (BatchOf (front_of st b)) m ≡ false → (e : Entry) → list_of st e.slot ≡ Some m → Counted st count e →
      Counted next risen e
  relabel m g e p c = (c.0, c.1, c.2 ∙ kept m e.slot p g)

  on_label : (e : Entry) → list_of st e.slot ≡ Some (BatchOf w.batch.number) × Counted st count e → not (e.owner == b) ≡ true →
      Counted next risen (passed_on e)
  on_label e p t = (
    p.1.0,
    p.1.1,
    (let c : e.forwards ≡ count e.slot = p.1.2 in omega (arith, c)) ∙ ap₂ (λ (x y : Bool). if x && y then suc (count e.slot) else count e.slot)
        (sym (queued_is (front_of st b) (owner_of st e.slot) (st.place e.slot)
        ∙ (ap (is_list (BatchOf (front_of st b))) p.0 ∙ eq-eqb (front_of st b) w.batch.number number_is)))
        (sym (ap (λ o. not (o == b)) (sym p.1.0) ∙ t)),
  )

  old_cache : (c : ℕ) → All (Counted next risen) (desk_listing v c).cache
  old_cache c = All-both (λ (e : Entry). list_of st e.slot ≡ Some (CacheOf c)) (Counted st count) (Counted next risen) (desk_listing v c).cache
      (relabel (CacheOf c) refl) (cache_place v st count h c) (h.cached c)

  cache_labels : All (Counted next risen) d.cache
  cache_labels = All-permutation (Counted next risen) _ d.cache f.cache
      (All-append (Counted next risen) (map passed_on (filter (λ (e : Entry). not (e.owner == b)) w.buffers)) (desk_listing v b).cache
      (All-map (Counted next risen) passed_on (filter (λ (e : Entry). not (e.owner == b)) w.buffers)
      (All-both (λ (e : Entry). list_of st e.slot ≡ Some (BatchOf w.batch.number) × Counted st count e) (λ (e : Entry). not (e.owner == b) ≡ true)
      (λ e. Counted next risen (passed_on e))
      (filter (λ (e : Entry). not (e.owner == b)) w.buffers) on_label
      (All-filter (λ (e : Entry). not (e.owner == b)) (λ (e : Entry). list_of st e.slot ≡ Some (BatchOf w.batch.number) × Counted st count e) w.buffers
      (λ k e m. (buffers_placed k e m, buffers_counted k e m)))
      (filter_passes (λ (e : Entry). not (e.owner == b)) w.buffers)))
      (old_cache b))

  home_labels : All (Labelled next) d.home
  home_labels = All-permutation (Labelled next) _ d.home f.home
      (All-append (Labelled next) (filter (λ (e : Entry). e.owner == b) w.buffers) (desk_listing v b).home
      (All-filter (λ (e : Entry). e.owner == b) (Labelled next) w.buffers (λ k e m. ((buffers_counted k e m).0, (buffers_counted k e m).1)))
      (λ k e m. h.homes b k e m))

  homes_at : (c : ℕ) (y : Bool) → (b == c) ≡ y → All (Labelled next) (desk_listing (with_desk v b d) c).home
  homes_at c true q = subst (λ m. All (Labelled next) (desk_listing (with_desk v b d) m).home) (eqb-true b c q)
      (subst (λ (x : DeskListing). All (Labelled next) x.home) (sym (desk_here v b d l)) home_labels)
  homes_at c false q = subst (λ (x : DeskListing). All (Labelled next) x.home) (sym (desk_other v b c d q)) (λ k e m. h.homes c k e m)

  cached_at : (c : ℕ) (y : Bool) → (b == c) ≡ y → All (Counted next risen) (desk_listing (with_desk v b d) c).cache
  cached_at c true q = subst (λ m. All (Counted next risen) (desk_listing (with_desk v b d) m).cache) (eqb-true b c q)
      (subst (λ (x : DeskListing). All (Counted next risen) x.cache) (sym (desk_here v b d l)) cache_labels)
  cached_at c false q = subst (λ (x : DeskListing). All (Counted next risen) x.cache) (sym (desk_other v b c d q)) (old_cache c)

  -- a batch that stays
  queued_stays : (p : BatchListing) → (front_of st b == p.batch.number) ≡ false →
      All (λ (e : Entry). list_of st e.slot ≡ Some (BatchOf p.batch.number)) p.buffers → All (Counted st count) p.buffers →
      All (Counted next risen) p.buffers
  queued_stays p g x y = All-both (λ (e : Entry). list_of st e.slot ≡ Some (BatchOf p.batch.number)) (Counted st count) (Counted next risen) p.buffers
      (relabel (BatchOf p.batch.number) g) x y

  Both : BatchListing → Type 0
  Both p = All (λ (e : Entry). list_of st e.slot ≡ Some (BatchOf p.batch.number)) p.buffers × All (Counted st count) p.buffers

  all_both : (c : ℕ) → All Both (inbox_listing v c)
  unfolding Both
  all_both c = λ j p m. (queued_place v st count h c j p m, h.queued c j p m)

  old_both : (c : ℕ) → All Both (inbox_listing new c)
  old_both c = go (b == c) refl
    where
      go : (y : Bool) → (b == c) ≡ y → All Both (inbox_listing new c)
      go true q = subst (λ z. All Both (inbox_listing new z)) (eqb-true b c q) (subst (λ ws. All Both ws) (sym here)
          (All-tail Both w rest (subst (λ ws. All Both ws) f.front (all_both b))))
      go false q = subst (λ ws. All Both ws) (sym (other c q)) (all_both c)

  queued_at : (c : ℕ) → All (λ (p : BatchListing). All (Counted next risen) p.buffers) (inbox_listing new c)
  unfolding Both
  queued_at c = λ j p m. queued_stays (get_or (inbox_listing new c) j p) (left_apart c j p m) (old_both c j p m).0 (old_both c j p m).1

  waiting_at : (c : ℕ) (y : Bool) → (b == c) ≡ y → map as_waiting (inbox_listing new c) ≡ inbox next c
  waiting_at c true q = subst (λ z. map as_waiting (inbox_listing new z) ≡ inbox next z) (eqb-true b c q)
      (ap (map as_waiting) here
      ∙ (sym (filter_all (λ w. not (front_of st b == w.number)) (map as_waiting rest) (λ u m. ap not (behind u m)))
      ∙ (ap (λ (x : Bool). cond (not x) (as_waiting w ∷ filter (λ w. not (front_of st b == w.number)) (map as_waiting rest))
      (filter (λ w. not (front_of st b == w.number)) (map as_waiting rest)))
      (sym (eq-eqb (front_of st b) w.batch.number number_is))
      ∙ (ap (filter (λ w. not (front_of st b == w.number))) (sym row_is)
      ∙ filter_swap (λ w. not (front_of st b == w.number)) (λ w. b == w.address) st.waiting))))
  waiting_at c false q = ap (map as_waiting) (other c q) ∙ (h.frame.inboxes c
      ∙ (sym (filter_all (λ w. not (front_of st b == w.number)) (inbox st c) (λ u m. ap not (apart c q u m)))
      ∙ filter_swap (λ w. not (front_of st b == w.number)) (λ w. c == w.address) st.waiting))

  pub take_shown : refusal st (Take b) ≡ None → Located (after_taking v b rest d) (after_take st b)
      (λ s. if same_place (InBatch (front_of st b)) (st.place s) && not (owner_of st s == b) then suc (count s) else count s)
  take_shown z = record {
    sound = take_step st count b h.sound z;
    frame = record {
      digits = h.frame.digits;
      limit = h.frame.limit;
      next = h.frame.next;
      desks = length-set v.desks b d ∙ h.frame.desks;
      inbox_count = length-set v.inboxes b rest ∙ h.frame.inbox_count;
      chunks = h.frame.chunks;
      drawn = h.frame.drawn;
      holder = λ c. desk_keeps (λ p. p.worker) v b d l f.worker c ∙ h.frame.holder c;
      inboxes = λ c. waiting_at c (b == c) refl;
    };
    in_place = taken_in_place st (λ k s. times s (slots_in v k)) (λ k s. times s (slots_in (after_taking v b rest d) k)) b h.in_place moves;
    homes = λ c. homes_at c (b == c) refl;
    lent = λ k e m. h.lent k e m;
    cached = λ c. cached_at c (b == c) refl;
    queued = queued_at;
  }

  -- the numbers of a batch's slots, from its buffers
  pub batch_length : (p : ℕ → Bool) → length (filter (λ (e : Entry). p e.owner) w.buffers) ≡ length
      (filter (λ s. p (owner_of st s)) (slots_at st (InBatch (front_of st b))))
  batch_length p =
      sym (part_length st count (BatchOf (front_of st b)) p (λ s. same_place (InBatch (front_of st b)) (st.place s) && p
      (owner_of st s)) w.buffers h.sound owners
      (λ s. sym (batch_is s) ∙ h.in_place (BatchOf (front_of st b)) s)
      (λ s. ap (λ x. x && p (owner_of st s)) (queued_is (front_of st b) (owner_of st s) (st.place s))))
      ∙ ap length (sym (filter_twice (λ s. p (owner_of st s)) (λ s. same_place (InBatch (front_of st b)) (st.place s)) (slots st)))

-- an accepted take
pub take_applies : (v : Listing) (b : ℕ) (w : BatchListing) (rest : List BatchListing) (d : DeskListing) → refusal_seen v (Take b) ≡ None →
    TakeEdits v b w rest d →
    LocatedStep v (Take b) (Ok (Counts (length (filter (λ (e : Entry). e.owner == b) w.buffers))
    (length (filter (λ (e : Entry). not (e.owner == b)) w.buffers)))) (after_taking v b rest d)
take_applies v b w rest d z f st count h =
    let l = leb-false (length v.desks) b (none_holds _ _ _ z).0 in
    let n = refusal_agrees v st count h (Take b) ∙ z in (
      after_take st b,
      ((n, (batch_length v st count b w rest d h l f (λ o. o == b), batch_length v st count b w rest d h l f (λ o. not (o == b)))), refl),
      take_shown v st count b w rest d h l f n,
    )
