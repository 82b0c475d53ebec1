-- What a floor's calls count, from the lists that it shows.
use Rattle.std.proofs.Common.{◌≡◌, ℕ, zero, suc, ◌+◌, ◌<◌, ◌≤◌, Bool, List, [], ◌∷◌, ◌++◌, map, filter, length, flat_map, Option, Some, None, is_some, IsPermutation, refl, sym, ap, ◌∙◌, subst, arith, ⊎_elim, length-append}
use Rattle.std.specs.List.{range_with_len, slice_get}
use Rattle.std.specs.Prelude.{count_by}
use Rattle.std.proofs.lemmas.Bool.{cases_lt}
use Rattle.std.proofs.Math.ListN.{get_or-eq_default}
use Rattle.std.proofs.lemmas.List.{length-map}
use Rattle.std.proofs.lemmas.List.Folds.{length-flat_map-take}
use Rattle.std.proofs.lemmas.List.Sorted.{length_permutation}
use Rattle.region_cut.specs.declared.slot.Slot.{Slot}
use Rattle.slot_chain.specs.Buffer.{Buffer}
use Rattle.slot_chain.specs.Counts.{capped}
use Rattle.slot_chain.specs.Slots.{slot_of}
use Rattle.pool_desk.specs.Homes.{slot_at}
use Rattle.pool_machine.specs.declared.chunk.DrawnChunk.{DrawnChunk}
use Rattle.pool_machine.specs.Headline.{joined}
use Rattle.pool_machine.proofs.Located.{inbox_listing}
use Rattle.pool_machine.specs.Listing.{DeskListing, BatchListing, slots_seen, Shown}
use Rattle.pool_machine.specs.Slots.{one_if}
use Rattle.pool_machine.specs.State.{State, slots, OnLoan, InCache, is_at, slots_at}
use Rattle.pool_machine.specs.SlotLists.{home_slots, queued_slots, drawn_count}
use Rattle.event_floor.specs.Lent.{buffers_lent}
use Rattle.event_floor.specs.Inboxes.{buffers_in, inbox_at}
use Rattle.event_floor.specs.Desks.{home_of, cached_of}
use Rattle.event_floor.specs.Floors.{FloorState, desk_at}
use Rattle.event_floor.specs.headline.Listing.{listing_of}
use Rattle.event_floor.specs.headline.TellsCounts.{TellsCounts}
use Rattle.pool_machine.proofs.Enumerate.{count_cons}
use Rattle.pool_machine.proofs.Reached.{reached_sound}
use Rattle.pool_machine.proofs.Shown.{shown_once}
use Rattle.event_floor.proofs.headline.Bounds.{all_few, filter_few, capped_is}
use Rattle.event_floor.proofs.headline.Listed.{home_listed, cache_listed, lent_listed, queue_seen, queue_listed}
use Rattle.pool_machine.proofs.Words.{at_home_with}

-- ---- slots

-- what lists some slots has as many entries
as_many : {X : Type 0} (f : X → Slot) (xs : List X) (slots : List Slot) → IsPermutation (map f xs) slots → length slots ≡ length xs
as_many f xs slots p = length_permutation (map f xs) slots p ∙ length-map xs f

counted : {X : Type 0} (f : X → Slot) (xs : List X) (slots : List Slot) → IsPermutation (map f xs) slots → length slots ≤ 4194304
    → capped (length xs) ≡ length slots
counted f xs slots p few =
    let e = as_many f xs slots p in
    capped_is (length xs) (subst (λ n. n ≤ 4194304) e few) ∙ sym e

pub present_count : (places : List (Option Buffer)) → count_by is_some places ≡ length (buffers_lent places)
present_count [] = refl
present_count (None ∷ places) = let a = count_cons is_some None places in let b = present_count places in omega (arith, a, b)
present_count (Some x ∷ places) = let a = count_cons is_some (Some x) places in let b = present_count places in omega (arith, a, b)

module _ (v : FloorState) (st : State) (c : Slot → ℕ) (few : v.chunks ≤ 1024) (h : Shown (listing_of v) st c) where
  slots_few : length (slots st) ≤ 4194304
  slots_few = all_few st (subst (λ n. n ≤ 1024) h.frame.chunks few)

  few_there : (q : Slot → Bool) → length (filter q (slots st)) ≤ 4194304
  few_there q = let a = filter_few q (slots st) in let b = slots_few in omega (arith, a, b)

  -- all inboxes have no more slots than there are
  abbrev waiting_slots : List Slot
  waiting_slots = flat_map (λ ws. flat_map (λ (w : BatchListing). slots_seen w.buffers) ws) (listing_of v).inboxes

  waiting_few : length waiting_slots ≤ length (slots st)
  waiting_few =
      let homes = flat_map (λ (d : DeskListing). slots_seen d.home) (listing_of v).desks in
      let caches = flat_map (λ (d : DeskListing). slots_seen d.cache) (listing_of v).desks in
      let lent = slots_seen (listing_of v).lent in
      let e = length_permutation (joined (listing_of v)) (slots st) (shown_once (listing_of v) st c h) in
      let a = length-append homes (lent ++ (caches ++ waiting_slots)) in
      let b = length-append lent (caches ++ waiting_slots) in
      let d = length-append caches waiting_slots in
      omega (arith, e, a, b, d)

  queue_few : (b : ℕ) → length (map slot_of (buffers_in (inbox_at v.inboxes b))) ≤ 4194304
  queue_few b = subst (λ xs. length xs ≤ 4194304) (queue_seen v st c h b) (⊎_elim
      (λ (l : b < length (listing_of v).inboxes).
      let e = length-flat_map-take (λ ws. flat_map (λ (w : BatchListing). slots_seen w.buffers) ws) (listing_of v).inboxes b [] l in
      let f = waiting_few in
      let a = slots_few in
      omega (arith, e, f, a))
      (λ (l : length (listing_of v).inboxes ≤ b).
      let e : length (flat_map (λ (w : BatchListing). slots_seen w.buffers) (inbox_listing (listing_of v) b)) ≡ 0 =
      ap (λ ws. length (flat_map (λ (w : BatchListing). slots_seen w.buffers) ws)) (get_or-eq_default (listing_of v).inboxes [] l) in
      omega (arith, e)) (cases_lt b (length (listing_of v).inboxes)))

  queued_few : (b : ℕ) → length (queued_slots st b) ≤ 4194304
  queued_few b = subst (λ n. n ≤ 4194304)
      (sym (length_permutation (map slot_of (buffers_in (inbox_at v.inboxes b))) (queued_slots st b) (queue_listed v st c h b))) (queue_few b)

  lent_told : length (buffers_lent v.lent) ≡ length (slots_at st OnLoan)
  lent_told = sym (as_many slot_of (buffers_lent v.lent) (slots_at st OnLoan) (lent_listed v st c h))

-- ---- chunks

first_drawn : (f : ℕ → Option DrawnChunk) (xs : List DrawnChunk) (a : ℕ) → ((i : ℕ) → f (a + i) ≡ slice_get xs i) → f a ≡ slice_get xs 0
first_drawn f xs a e = let p : a ≡ a + 0 = omega arith in ap f p ∙ e 0

next_drawn : (f : ℕ → Option DrawnChunk) (xs : List DrawnChunk) (a : ℕ) → ((i : ℕ) → f (a + i) ≡ slice_get xs i) → (i : ℕ) → f ((a + 1) + i) ≡ slice_get xs (suc i)
next_drawn f xs a e i = let p : (a + 1) + i ≡ a + suc i = omega arith in ap f p ∙ e (suc i)

-- as many of n chunks are drawn as the list has
counted_drawn : (f : ℕ → Option DrawnChunk) (xs : List DrawnChunk) (a n : ℕ) → length xs ≤ n → ((i : ℕ) → f (a + i) ≡ slice_get xs i)
    → count_by (λ k. is_some (f k)) (range_with_len a n) ≡ length xs
counted_drawn f [] a zero l e = refl
counted_drawn f (x ∷ xs) a zero l e = absurd (omega arith)
counted_drawn f [] a (suc n) l e =
    let h = count_cons (λ k. is_some (f k)) a (range_with_len (a + 1) n) in
    let r = counted_drawn f [] (a + 1) n (omega arith) (next_drawn f [] a e) in
    let z : one_if (is_some (f a)) ≡ 0 = ap (λ o. one_if (is_some o)) (first_drawn f [] a e) in
    omega (arith, h, r, z)
counted_drawn f (x ∷ xs) a (suc n) l e =
    let h = count_cons (λ k. is_some (f k)) a (range_with_len (a + 1) n) in
    let r = counted_drawn f xs (a + 1) n (omega arith) (next_drawn f (x ∷ xs) a e) in
    let z : one_if (is_some (f a)) ≡ 1 = ap (λ o. one_if (is_some o)) (first_drawn f (x ∷ xs) a e) in
    omega (arith, h, r, z)

pub some_at : {X : Type 0} (xs : List X) (k : ℕ) → k < length xs → (x : X) × (slice_get xs k ≡ Some x)
some_at [] k l = absurd (omega arith)
some_at (x ∷ xs) zero l = (x, refl)
some_at (x ∷ xs) (suc k) l = some_at xs k (omega arith)

drawn_told : (v : FloorState) (st : State) (c : Slot → ℕ) → Shown (listing_of v) st c → length v.drawn ≡ drawn_count st
drawn_told v st c h = sym (counted_drawn st.drawn v.drawn 0 st.chunks within (λ i. ap st.drawn (let p : 0 + i ≡ i = omega arith in p) ∙ sym (h.frame.drawn i)))
  where
    past : st.chunks < length v.drawn → ⊥
    past l =
        let o = some_at v.drawn st.chunks l in
        let k = ((reached_sound st c h.reached).chunks_fit st.chunks o.0 (sym (h.frame.drawn st.chunks) ∙ o.1)).0 in
        omega (arith, k)

    within : length v.drawn ≤ st.chunks
    within = ⊎_elim (λ (l : st.chunks < length v.drawn). absurd (past l)) (λ (l : length v.drawn ≤ st.chunks). l) (cases_lt st.chunks (length v.drawn))

-- ---- all counts

pub floor_tells : (v : FloorState) (st : State) (count : Slot → ℕ) → v.chunks ≤ 1024 → Shown (listing_of v) st count → TellsCounts v st
floor_tells v st count few h = record {
  home = λ a. counted slot_at (home_of (desk_at v a)) (home_slots st a) (home_listed v st count h a) (few_there v st count few h (at_home_with st a));
  cached = λ a. counted slot_of (cached_of (desk_at v a)) (slots_at st (InCache a)) (cache_listed v st count h a) (few_there v st count few h (is_at st (InCache a)));
  queued = λ a. counted slot_of (buffers_in (inbox_at v.inboxes a)) (queued_slots st a) (queue_listed v st count h a) (queued_few v st count few h a);
  lent = lent_told v st count few h;
  drawn = drawn_told v st count h;
}
