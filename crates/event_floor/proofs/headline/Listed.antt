-- The slots that a floor lists are those that the machine has there.
use Rattle.std.proofs.Common.{◌≡◌, ℕ, zero, suc, ◌+◌, ◌<◌, cond, List, [], ◌∷◌, ◌++◌, map, length, get_or, sum_by, flat_map, option_map, IsPermutation, refl, sym, ap, ap₂, ◌∙◌, subst, arith}
use Rattle.std.specs.List.{range_with_len}
use Rattle.std.proofs.lemmas.List.{length-map, map-append}
use Rattle.std.proofs.lemmas.List.Sorted.{IsPermutation-refl, IsPermutation-append}
use Rattle.std.proofs.lemmas.List.Sums.{sum_by-append, sum_by-cons}
use Rattle.region_cut.specs.declared.slot.Slot.{Slot}
use Rattle.slot_chain.specs.Buffer.{Buffer}
use Rattle.slot_chain.specs.Slots.{slot_of}
use Rattle.pool_desk.specs.Homes.{slot_at}
use Rattle.pool_machine.specs.declared.chunk.DrawnChunk.{DrawnChunk}
use Rattle.pool_machine.specs.Headline.{joined}
use Rattle.pool_machine.proofs.Located.{inbox_listing}
use Rattle.pool_machine.proofs.Words.{as_waiting}
use Rattle.pool_machine.specs.Listing.{DeskListing, BatchListing, slots_seen, Shown}
use Rattle.region_cut.specs.Slots.{same_slot, times}
use Rattle.pool_machine.specs.Slots.{one_if}
use Rattle.pool_machine.specs.State.{State, Waiting, is_slot, OnLoan, InCache, InBatch, slots_at}
use Rattle.pool_machine.specs.SlotLists.{home_slots, queued_slots}
use Rattle.event_floor.specs.Desks.AnyDeskState.{Idle, Held}
use Rattle.event_floor.specs.Lent.{buffers_lent}
use Rattle.event_floor.specs.Inboxes.{QueuedState, buffers_in, inbox_at}
use Rattle.event_floor.specs.Desks.{AnyDeskState, home_of, cached_of}
use Rattle.event_floor.specs.Floors.{FloorState, desk_count, desk_at, no_desk}
use Rattle.event_floor.specs.headline.Listing.{entry_of, desk_of, batch_of, listing_of}
use Rattle.event_floor.specs.headline.ListsSlots.{slots_with, slots_on, ListsSlots}
use Rattle.pool_machine.proofs.Joined.{located_once}
use Rattle.pool_machine.proofs.Shown.{located}
use Rattle.event_floor.proofs.headline.Apart.{home_slots as home_seen}
use Rattle.event_floor.proofs.headline.Views.{desk_seen, inbox_seen}

-- ---- the slots of each list

seen_buffers : (bs : List Buffer) → slots_seen (map entry_of bs) ≡ map slot_of bs
seen_buffers [] = refl
seen_buffers (b ∷ bs) = ap (λ ss. b.slot ∷ ss) (seen_buffers bs)

desk_cache : (x : AnyDeskState) → slots_seen (desk_of x).cache ≡ map slot_of (cached_of x)
desk_cache (Idle d) = refl
desk_cache (Held d) = seen_buffers d.cached

seen_batches : (ps : List QueuedState) → flat_map (λ (w : BatchListing). slots_seen w.buffers) (map batch_of ps) ≡ map slot_of (buffers_in ps)
seen_batches [] = refl
seen_batches (p ∷ ps) = ap₂ (λ xs ys. xs ++ ys) (seen_buffers p.buffers) (seen_batches ps) ∙ sym (map-append slot_of p.buffers (buffers_in ps))

-- ---- sums

times_append : (s : Slot) (xs ys : List Slot) → times s (xs ++ ys) ≡ times s xs + times s ys
times_append s xs ys = sum_by-append (λ r. cond (same_slot s r) 1 0) xs ys

times_flat : {X : Type 0} (s : Slot) (f : X → List Slot) (xs : List X) → times s (flat_map f xs) ≡ sum_by (λ x. times s (f x)) xs
times_flat s f [] = refl
times_flat s f (x ∷ xs) =
    let a = times_append s (f x) (flat_map f xs) in
    let b = sum_by-cons (λ y. times s (f y)) x xs in
    let r = times_flat s f xs in
    omega (arith, a, b, r)

sum_map : {X Y : Type 0} (f : Y → ℕ) (g : X → Y) (xs : List X) → sum_by f (map g xs) ≡ sum_by (λ x. f (g x)) xs
sum_map f g [] = refl
sum_map f g (x ∷ xs) =
    let a = sum_by-cons f (g x) (map g xs) in
    let b = sum_by-cons (λ y. f (g y)) x xs in
    let r = sum_map f g xs in
    omega (arith, a, b, r)

-- over the places of a list, and over the list
sum_places : {X : Type 0} (g : ℕ → ℕ) (f : X → ℕ) (xs : List X) (d : X) (a : ℕ) → ((i : ℕ) → g (a + i) ≡ f (get_or xs i d))
    → sum_by g (range_with_len a (length xs)) ≡ sum_by f xs
sum_places g f [] d a e = refl
sum_places g f (x ∷ xs) d a e =
    let p = sum_by-cons g a (range_with_len (a + 1) (length xs)) in
    let q = sum_by-cons f x xs in
    let here : g a ≡ f x = ap g (let z : a ≡ a + 0 = omega arith in z) ∙ e 0 in
    let r = sum_places g f xs d (a + 1) (λ i. ap g (let z : (a + 1) + i ≡ a + suc i = omega arith in z) ∙ e (suc i)) in
    omega (arith, p, q, here, r)

sum_three : (f g h k : ℕ → ℕ) (xs : List ℕ) → ((a : ℕ) → f a ≡ g a + (h a + k a)) → sum_by f xs ≡ sum_by g xs + (sum_by h xs + sum_by k xs)
sum_three f g h k [] e = refl
sum_three f g h k (x ∷ xs) e =
    let a = sum_by-cons f x xs in
    let b = sum_by-cons g x xs in
    let c = sum_by-cons h x xs in
    let d = sum_by-cons k x xs in
    let here = e x in
    let r = sum_three f g h k xs e in
    omega (arith, a, b, c, d, here, r)

-- ---- all lists

module _ (v : FloorState) (st : State) (c : Slot → ℕ) (h : Shown (listing_of v) st c) (s : Slot) where
  abbrev at_home : ℕ → ℕ
  at_home a = times s (map slot_at (home_of (desk_at v a)))

  abbrev in_cache : ℕ → ℕ
  in_cache a = times s (map slot_of (cached_of (desk_at v a)))

  abbrev in_inbox : ℕ → ℕ
  in_inbox a = times s (map slot_of (buffers_in (inbox_at v.inboxes a)))

  abbrev places : List ℕ
  places = range_with_len 0 (desk_count v)

  with_desk : (a : ℕ) → times s (slots_with v a) ≡ at_home a + (in_cache a + in_inbox a)
  with_desk a =
      let x = times_append s (map slot_at (home_of (desk_at v a))) (map slot_of (cached_of (desk_at v a)) ++ map slot_of (buffers_in (inbox_at v.inboxes a))) in
      let y = times_append s (map slot_of (cached_of (desk_at v a))) (map slot_of (buffers_in (inbox_at v.inboxes a))) in
      omega (arith, x, y)

  with_desks : times s (flat_map (slots_with v) places) ≡ sum_by at_home places + (sum_by in_cache places + sum_by in_inbox places)
  with_desks = times_flat s (slots_with v) places ∙ sum_three (λ a. times s (slots_with v a)) at_home in_cache in_inbox places with_desk

  abbrev homes_slots : List Slot
  homes_slots = flat_map (λ (d : DeskListing). slots_seen d.home) (listing_of v).desks

  abbrev cache_slots : List Slot
  cache_slots = flat_map (λ (d : DeskListing). slots_seen d.cache) (listing_of v).desks

  abbrev inbox_slots : List Slot
  inbox_slots = flat_map (λ ws. flat_map (λ (w : BatchListing). slots_seen w.buffers) ws) (listing_of v).inboxes

  homes : sum_by at_home places ≡ times s homes_slots
  homes =
      sum_places at_home (λ x. times s (slots_seen (desk_of x).home)) v.desks no_desk 0
      (λ i. ap at_home (let z : 0 + i ≡ i = omega arith in z) ∙ ap (times s) (sym (home_seen (get_or v.desks i no_desk))))
      ∙ sym (times_flat s (λ (d : DeskListing). slots_seen d.home) (map desk_of v.desks) ∙ sum_map (λ (d : DeskListing). times s (slots_seen d.home)) desk_of v.desks)

  caches : sum_by in_cache places ≡ times s cache_slots
  caches =
      sum_places in_cache (λ x. times s (slots_seen (desk_of x).cache)) v.desks no_desk 0
      (λ i. ap in_cache (let z : 0 + i ≡ i = omega arith in z) ∙ ap (times s) (sym (desk_cache (get_or v.desks i no_desk))))
      ∙ sym (times_flat s (λ (d : DeskListing). slots_seen d.cache) (map desk_of v.desks) ∙ sum_map (λ (d : DeskListing). times s (slots_seen d.cache)) desk_of v.desks)

  as_many : length v.inboxes ≡ desk_count v
  as_many = sym (length-map v.inboxes (map batch_of)) ∙ (h.frame.inbox_count ∙ (sym h.frame.desks ∙ length-map v.desks desk_of))

  inboxes : sum_by in_inbox places ≡ times s inbox_slots
  inboxes =
      ap (λ n. sum_by in_inbox (range_with_len 0 n)) (sym as_many)
      ∙ (sum_places in_inbox (λ ps. times s (flat_map (λ (w : BatchListing). slots_seen w.buffers) (map batch_of ps))) v.inboxes [] 0
      (λ i. ap in_inbox (let z : 0 + i ≡ i = omega arith in z) ∙ ap (times s) (sym (seen_batches (get_or v.inboxes i []))))
      ∙ sym (times_flat s (λ ws. flat_map (λ (w : BatchListing). slots_seen w.buffers) ws) (map (map batch_of) v.inboxes)
      ∙ sum_map (λ ws. times s (flat_map (λ (w : BatchListing). slots_seen w.buffers) ws)) (map batch_of) v.inboxes))

  -- the lists that an audit goes over are those that the machine names
  on_floor : times s (slots_on v) ≡ times s (joined (listing_of v))
  on_floor =
      let a = times_append s (map slot_of (buffers_lent v.lent)) (flat_map (slots_with v) places) in
      let l = ap (times s) (seen_buffers (buffers_lent v.lent)) in
      let x = times_append s homes_slots (slots_seen (listing_of v).lent ++ (cache_slots ++ inbox_slots)) in
      let y = times_append s (slots_seen (listing_of v).lent) (cache_slots ++ inbox_slots) in
      let z = times_append s cache_slots inbox_slots in
      let d = with_desks in
      let e = homes in
      let f = caches in
      let g = inboxes in
      omega (arith, a, l, x, y, z, d, e, f, g)

  pub once_on_floor : times s (slots_on v) ≡ one_if (is_slot st s)
  once_on_floor = on_floor ∙ located_once (listing_of v) st c (located (listing_of v) st c h) s

-- ---- each list

flat_permuted : {X : Type 0} (f g : X → List Slot) (xs : List X) → ((j : ℕ) (d : X) → j < length xs → IsPermutation (f (get_or xs j d)) (g (get_or xs j d)))
    → IsPermutation (flat_map f xs) (flat_map g xs)
flat_permuted f g [] p = IsPermutation-refl []
flat_permuted f g (x ∷ xs) p =
    IsPermutation-append (f x) (g x) (flat_map f xs) (flat_map g xs) (p zero x (omega arith)) (flat_permuted f g xs (λ j d l. p (suc j) d (omega arith)))

flat_of_map : {X Y : Type 0} (f : Y → List Slot) (g : X → Y) (xs : List X) → flat_map f (map g xs) ≡ flat_map (λ x. f (g x)) xs
flat_of_map f g [] = refl
flat_of_map f g (x ∷ xs) = ap (λ ys. f (g x) ++ ys) (flat_of_map f g xs)

module _ (v : FloorState) (st : State) (c : Slot → ℕ) (h : Shown (listing_of v) st c) where
  pub home_listed : (a : ℕ) → IsPermutation (map slot_at (home_of (desk_at v a))) (home_slots st a)
  home_listed a = subst (λ xs. IsPermutation xs (home_slots st a))
      (ap (λ (d : DeskListing). slots_seen d.home) (desk_seen v a) ∙ home_seen (desk_at v a)) (h.homes a).0

  pub cache_listed : (a : ℕ) → IsPermutation (map slot_of (cached_of (desk_at v a))) (slots_at st (InCache a))
  cache_listed a = subst (λ xs. IsPermutation xs (slots_at st (InCache a)))
      (ap (λ (d : DeskListing). slots_seen d.cache) (desk_seen v a) ∙ desk_cache (desk_at v a)) (h.caches a).0

  pub lent_listed : IsPermutation (map slot_of (buffers_lent v.lent)) (slots_at st OnLoan)
  lent_listed = subst (λ xs. IsPermutation xs (slots_at st OnLoan)) (seen_buffers (buffers_lent v.lent)) h.lent.0

  pub queue_seen : (b : ℕ) → flat_map (λ (w : BatchListing). slots_seen w.buffers) (inbox_listing (listing_of v) b)
      ≡ map slot_of (buffers_in (inbox_at v.inboxes b))
  queue_seen b = ap (flat_map (λ (w : BatchListing). slots_seen w.buffers)) (inbox_seen v b) ∙ seen_batches (inbox_at v.inboxes b)

  pub queue_listed : (b : ℕ) → IsPermutation (map slot_of (buffers_in (inbox_at v.inboxes b))) (queued_slots st b)
  queue_listed b =
      let ws = inbox_listing (listing_of v) b in
      let told : flat_map (λ (w : BatchListing). slots_at st (InBatch w.batch.number)) ws ≡ queued_slots st b =
      sym (flat_of_map (λ (w : Waiting). slots_at st (InBatch w.number)) as_waiting ws) ∙ ap (flat_map (λ (w : Waiting). slots_at st (InBatch w.number))) (h.frame.inboxes b) in
      subst (λ xs. IsPermutation xs (queued_slots st b)) (queue_seen b)
      (subst (λ ys. IsPermutation (flat_map (λ (w : BatchListing). slots_seen w.buffers) ws) ys) told
      (flat_permuted (λ (w : BatchListing). slots_seen w.buffers) (λ (w : BatchListing). slots_at st (InBatch w.batch.number)) ws
      (λ j d m. (h.batches b j d m).0)))

pub floor_lists : (v : FloorState) (st : State) (count : Slot → ℕ) → Shown (listing_of v) st count → ListsSlots v st
floor_lists v st count h = record {
  home = home_listed v st count h;
  cached = cache_listed v st count h;
  queued = queue_listed v st count h;
  lent = lent_listed v st count h;
  class = λ k. ap (option_map (λ (d : DrawnChunk). d.class)) (h.frame.drawn k);
  once = once_on_floor v st count h;
}
