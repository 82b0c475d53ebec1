-- Each slot of a drawn chunk is once among all the floor's lists joined.
use Rattle.std.proofs.Common.{◌≡◌, ℕ, zero, suc, ◌+◌, ◌<◌, ◌≤◌, Bool, true, false, ◌==◌, List, [], ◌∷◌, ◌++◌, length, get_or, flat_map, Option, Some, None, is_some, option_map, if◌then◌else◌, refl, sym, ap, ap₂, ◌∙◌, subst, arith, le_trans}
use Rattle.std.proofs.lemmas.Bool.{eqb-true, eqb-false, eq-eqb, ne_eqb}
use Rattle.region_cut.specs.declared.slot.Slot.{Slot}
use Rattle.region_cut.specs.Slots.{same_slot, times}
use Rattle.pool_machine.specs.Slots.{one_if, ListsEachSlot}
use Rattle.pool_machine.specs.State.{State, Place, AtHome, OnLoan, InCache, InBatch, owner_of, is_slot}
use Rattle.pool_machine.specs.Sound.{Fits}
use Rattle.pool_machine.specs.Listing.{slots_seen, Listing, DeskListing, BatchListing, empty_desk}
use Rattle.pool_machine.proofs.Located.{ListName, HomeOf, Loans, CacheOf, BatchOf, list_at, list_of, is_list, slots_in, if_numbered, Located}
use Rattle.pool_machine.specs.Headline.{joined}
use Rattle.pool_machine.proofs.Enumerate.{count_append}
use Rattle.pool_machine.proofs.FreeStep.{batch_counts, inbox_counts}

module _ (s : Slot) (f : DeskListing → List Slot) where
  desks_none : (ds : List DeskListing) → ((a : ℕ) → a < length ds → times s (f (get_or ds a empty_desk)) ≡ 0) → times s (flat_map f ds) ≡ 0
  desks_none [] h = refl
  desks_none (d ∷ ds) h =
      count_append (same_slot s) (f d) (flat_map f ds) ∙ ap₂ ◌+◌ (h zero (omega arith)) (desks_none ds (λ a l. h (suc a) (omega arith)))

  desks_one : (ds : List DeskListing) (o : ℕ) → o < length ds → ((a : ℕ) → a < length ds → times s (f (get_or ds a empty_desk)) ≡ one_if (a == o)) →
      times s (flat_map f ds) ≡ 1
  desks_one [] o l h = absurd (omega arith)
  desks_one (d ∷ ds) zero l h =
      count_append (same_slot s) (f d) (flat_map f ds)
      ∙ ap₂ ◌+◌ (h zero (omega arith)) (desks_none ds (λ a m. h (suc a) (omega arith) ∙ ap one_if (ne_eqb (suc a) zero (λ e. absurd (omega arith)))))
  desks_one (d ∷ ds) (suc o) l h =
      count_append (same_slot s) (f d) (flat_map f ds)
      ∙ ap₂ ◌+◌ (h zero (omega arith) ∙ ap one_if (ne_eqb zero (suc o) (λ e. absurd (omega arith))))
      (desks_one ds o (omega arith) (λ a m. h (suc a) (omega arith) ∙ ap one_if (shifted a (a == o) refl)))
    where
      shifted : (a : ℕ) (b : Bool) → (a == o) ≡ b → (suc a == suc o) ≡ (a == o)
      shifted a true e = eq-eqb (suc a) (suc o) (ap suc (eqb-true a o e)) ∙ sym e
      shifted a false e = ne_eqb (suc a) (suc o) (λ q. eqb-false a o e (omega arith)) ∙ sym e

-- the batches, where the slot is in none but those of one number
module _ (s : Slot) (n : ℕ) where
  one_inbox : (ws : List BatchListing) → ((j : ℕ) (d : BatchListing) → j < length ws → (n == (get_or ws j d).batch.number) ≡ false →
      times s (slots_seen (get_or ws j d).buffers) ≡ 0) →
      times s (flat_map (λ (w : BatchListing). slots_seen w.buffers) ws) ≡ times s (flat_map (if_numbered n) ws)
  one_inbox [] h = refl
  one_inbox (w ∷ ws) h =
      count_append (same_slot s) (slots_seen w.buffers) (flat_map (λ (w : BatchListing). slots_seen w.buffers) ws)
      ∙ (ap₂ ◌+◌ (here (n == w.batch.number) refl) (one_inbox ws (λ j d l e. h (suc j) d (omega arith) e))
      ∙ sym (count_append (same_slot s) (if_numbered n w) (flat_map (if_numbered n) ws)))
    where
      here : (b : Bool) → (n == w.batch.number) ≡ b → times s (slots_seen w.buffers) ≡ times s (if n == w.batch.number then slots_seen w.buffers else [])
      here true e = ap (λ (b : Bool). times s (if b then slots_seen w.buffers else [])) (sym e)
      here false e = h zero w (omega arith) e ∙ ap (λ (b : Bool). times s (if b then slots_seen w.buffers else [])) (sym e)

  all_inboxes : (is : List (List BatchListing)) →
      ((b j : ℕ) (d : BatchListing) → j < length (get_or is b []) → (n == (get_or (get_or is b []) j d).batch.number) ≡ false →
      times s (slots_seen (get_or (get_or is b []) j d).buffers) ≡ 0) →
      times s (flat_map (λ ws. flat_map (λ (w : BatchListing). slots_seen w.buffers) ws) is) ≡ times s
      (flat_map (λ ws. flat_map (if_numbered n) ws) is)
  all_inboxes [] h = refl
  all_inboxes (ws ∷ is) h =
      count_append (same_slot s) (flat_map (λ (w : BatchListing). slots_seen w.buffers) ws)
      (flat_map (λ us. flat_map (λ (w : BatchListing). slots_seen w.buffers) us) is)
      ∙ (ap₂ ◌+◌ (one_inbox ws (λ j d l e. h zero j d l e)) (all_inboxes is (λ b j d l e. h (suc b) j d l e))
      ∙ sym (count_append (same_slot s) (flat_map (if_numbered n) ws) (flat_map (λ us. flat_map (if_numbered n) us) is)))

module _ (v : Listing) (st : State) (count : Slot → ℕ) (h : Located v st count) (s : Slot) where
  homes : List Slot
  homes = flat_map (λ (d : DeskListing). slots_seen d.home) v.desks

  caches : List Slot
  caches = flat_map (λ (d : DeskListing). slots_seen d.cache) v.desks

  batches : List Slot
  batches = flat_map (λ ws. flat_map (λ (w : BatchListing). slots_seen w.buffers) ws) v.inboxes

  four : times s (joined v) ≡ times s homes + (times s (slots_seen v.lent) + (times s caches + times s batches))
  unfolding homes caches batches
  four = count_append (same_slot s) homes (slots_seen v.lent ++ (caches ++ batches))
      ∙ ap (λ n. times s homes + n) (count_append (same_slot s) (slots_seen v.lent) (caches ++ batches)
      ∙ ap (λ n. times s (slots_seen v.lent) + n) (count_append (same_slot s) caches batches))

  -- by the list that the machine names
  at_list : (l : ListName) (o : Option ListName) → list_of st s ≡ o → times s (slots_in v l) ≡ one_if (is_list l o)
  at_list l o e = h.in_place l s ∙ ap (λ x. one_if (is_list l x)) e

  no_homes : (o : Option ListName) → list_of st s ≡ o → ((a : ℕ) → is_list (HomeOf a) o ≡ false) → times s homes ≡ 0
  unfolding homes
  no_homes o e f = desks_none s (λ (d : DeskListing). slots_seen d.home) v.desks (λ a l. at_list (HomeOf a) o e ∙ ap one_if (f a))

  no_caches : (o : Option ListName) → list_of st s ≡ o → ((a : ℕ) → is_list (CacheOf a) o ≡ false) → times s caches ≡ 0
  unfolding caches
  no_caches o e f = desks_none s (λ (d : DeskListing). slots_seen d.cache) v.desks (λ a l. at_list (CacheOf a) o e ∙ ap one_if (f a))

  -- all batches have no more of the slot than those of the number n, where it is named in no other
  batches_of : (n : ℕ) (o : Option ListName) → list_of st s ≡ o → ((m : ℕ) → (n == m) ≡ false → is_list (BatchOf m) o ≡ false) →
      times s batches ≡ one_if (is_list (BatchOf n) o)
  unfolding batches
  batches_of n o e f = all_inboxes s n v.inboxes (λ b j d l q. none b j d l q) ∙ at_list (BatchOf n) o e
    where
      none : (b j : ℕ) (d : BatchListing) → j < length (get_or v.inboxes b []) → (n == (get_or (get_or v.inboxes b []) j d).batch.number) ≡ false →
          times s (slots_seen (get_or (get_or v.inboxes b []) j d).buffers) ≡ 0
      none b j d l q =
          let w = get_or (get_or v.inboxes b []) j d in
          let p = batch_counts s w.batch.number (get_or v.inboxes b []) j d l refl in
          let g = inbox_counts s w.batch.number v.inboxes b in
          let z : times s (slots_in v (BatchOf w.batch.number)) ≡ 0 = at_list (BatchOf w.batch.number) o e ∙ ap one_if (f w.batch.number q) in
          let t : times s (slots_seen w.buffers) ≤ times s (slots_in v (BatchOf w.batch.number)) = le_trans p g in
          omega arith

  in_desks : (o : ℕ) → o < st.desks → o < length v.desks
  in_desks o l = subst (λ n. o < n) (sym h.frame.desks) l

  total : (hs ls cs bs : ℕ) → times s homes ≡ hs → times s (slots_seen v.lent) ≡ ls → times s caches ≡ cs → times s batches ≡ bs →
      times s (joined v) ≡ hs + (ls + (cs + bs))
  total hs ls cs bs a b c d = four ∙ ap₂ ◌+◌ a (ap₂ ◌+◌ b (ap₂ ◌+◌ c d))

  by_place : (p : Option Place) → option_map (list_at (owner_of st s)) p ≡ list_of st s → Fits st (owner_of st s) (count s) p →
      times s (joined v) ≡ one_if (is_some p)
  unfolding homes caches
  by_place None e f = total 0 0 0 0 (no_homes None (sym e) (λ a. refl)) (at_list Loans None (sym e)) (no_caches None (sym e) (λ a. refl))
      (batches_of 0 None (sym e) (λ m q. refl))
  by_place (Some AtHome) e f = total 1 0 0 0
      (home_one (sym e) f.0)
      (at_list Loans (Some (HomeOf (owner_of st s))) (sym e)) (no_caches (Some (HomeOf (owner_of st s))) (sym e) (λ a. refl))
      (batches_of 0 (Some (HomeOf (owner_of st s))) (sym e) (λ m q. refl))
    where
      home_one : list_of st s ≡ Some (HomeOf (owner_of st s)) → owner_of st s < st.desks → times s homes ≡ 1
      home_one e l = desks_one s (λ (d : DeskListing). slots_seen d.home) v.desks (owner_of st s) (in_desks (owner_of st s) l)
          (λ a m. at_list (HomeOf a) (Some (HomeOf (owner_of st s))) e)
  by_place (Some OnLoan) e f = total 0 1 0 0
      (no_homes (Some Loans) (sym e) (λ a. refl)) (at_list Loans (Some Loans) (sym e)) (no_caches (Some Loans) (sym e) (λ a. refl))
      (batches_of 0 (Some Loans) (sym e) (λ m q. refl))
  by_place (Some (InCache c)) e f = total 0 0 1 0
      (no_homes (Some (CacheOf c)) (sym e) (λ a. refl)) (at_list Loans (Some (CacheOf c)) (sym e))
      (cache_one c (sym e) f.1.0) (batches_of 0 (Some (CacheOf c)) (sym e) (λ m q. refl))
    where
      cache_one : (c : ℕ) → list_of st s ≡ Some (CacheOf c) → c < st.desks → times s caches ≡ 1
      cache_one c e l = desks_one s (λ (d : DeskListing). slots_seen d.cache) v.desks c (in_desks c l)
          (λ a m. at_list (CacheOf a) (Some (CacheOf c)) e)
  by_place (Some (InBatch n)) e f = total 0 0 0 1
      (no_homes (Some (BatchOf n)) (sym e) (λ a. refl)) (at_list Loans (Some (BatchOf n)) (sym e)) (no_caches (Some (BatchOf n)) (sym e) (λ a. refl))
      (batches_of n (Some (BatchOf n)) (sym e) (λ m q. turned m q) ∙ ap one_if (eq-eqb n n refl))
    where
      turned : (m : ℕ) → (n == m) ≡ false → (m == n) ≡ false
      turned m q = ne_eqb m n (λ r. eqb-false n m q (sym r))

  pub once_joined : times s (joined v) ≡ one_if (is_slot st s)
  once_joined = by_place (st.place s) refl (h.sound.fits s) ∙ ap one_if (h.sound.placed s)

-- the headline's count: each slot of a drawn chunk once among the floor's lists, and no other slot
pub located_once : (v : Listing) (st : State) (count : Slot → ℕ) → Located v st count → ListsEachSlot (joined v) st.drawn
located_once v st count h s = once_joined v st count h s
