-- Lists that show a state, from lists that have each slot in its place, and back.
use Rattle.std.proofs.Common.{◌≡◌, ℕ, zero, suc, ◌+◌, ◌^◌, ◌<◌, ◌≤◌, Bool, true, false, ◌==◌, List, [], ◌∷◌, filter, length, get_or, flat_map, Option, Some, None, option_map, if◌then◌else◌, IsPermutation, refl, sym, ap, ap₂, ◌∙◌, subst, arith, ⊎_elim}
use Rattle.std.proofs.Math.ListN.{get_or-eq_default}
use Rattle.std.proofs.lemmas.Bool.{cases_lt, false≢true, eqb-true}
use Rattle.region_cut.specs.declared.slot.Slot.{Slot}
use Rattle.digit_route.specs.Digits.{Scheme, IsScheme}
use Rattle.pool_machine.specs.declared.request.Request.{Request}
use Rattle.region_cut.specs.Slots.{same_slot, times}
use Rattle.pool_machine.specs.Slots.{one_if}
use Rattle.pool_machine.specs.State.{State, Place, AtHome, OnLoan, InCache, InBatch, Waiting, owner_of, is_slot, slots, opening, same_place, is_at, slots_at}
use Rattle.pool_machine.specs.Steps.{Answer}
use Rattle.pool_machine.specs.Forwards.{counted}
use Rattle.pool_machine.specs.Sound.{Member, Sound, Fits}
use Rattle.pool_machine.specs.Reached.{IsReached}
use Rattle.pool_machine.specs.Listing.{Listing, BatchListing, desk_listing, slots_seen, Shown}
use Rattle.pool_machine.specs.Headline.{joined, Applies}
use Rattle.pool_machine.proofs.Located.{inbox_listing, ListName, HomeOf, Loans, CacheOf, BatchOf, list_at, list_of, is_list, slots_in, if_numbered, Located, LocatedStep}
use Rattle.pool_machine.proofs.Batches.{stands_there, batch_only}
use Rattle.pool_machine.proofs.Enumerate.{count_append, slots_once}
use Rattle.pool_machine.proofs.InPlace.{in_cache_is}
use Rattle.pool_machine.proofs.Joined.{located_once}
use Rattle.pool_machine.proofs.Listed.{listed, filtered_once, times_permuted, permutation_from_times}
use Rattle.pool_machine.proofs.PartBy.{some_list, at_home_is, lent_named}
use Rattle.pool_machine.proofs.Parts.{opened, opening_located}
use Rattle.pool_machine.proofs.Reached.{opening_reached, step_reached, reached_sound}
use Rattle.pool_machine.proofs.TakeFloor.{queued_is}
use Rattle.pool_machine.proofs.Words.{at_home_with}

-- a test that says which slots are in a list passes slots alone
within : (st : State) (c : Slot → ℕ) (l : ListName) (q : Slot → Bool) → Sound st c → ((s : Slot) → q s ≡ is_list l (list_of st s))
    → (s : Slot) → q s ≡ true → is_slot st s ≡ true
within st c l q h same s e = sym (h.placed s) ∙ some_list l (owner_of st s) (st.place s) (sym (same s) ∙ e)

-- ---- from places to lists

named_slots : (v : Listing) (st : State) (c : Slot → ℕ) (l : ListName) (q : Slot → Bool) (xs : List Slot) → Located v st c
    → ((s : Slot) → times s xs ≡ one_if (is_list l (list_of st s))) → ((s : Slot) → q s ≡ is_list l (list_of st s)) → IsPermutation xs (filter q (slots st))
named_slots v st c l q xs h once same =
    listed st c q xs h.sound (within st c l q h.sound same) (λ s. once s ∙ ap one_if (sym (same s)))

pub shown : (v : Listing) (st : State) (c : Slot → ℕ) → IsReached st c → Located v st c → Shown v st c
shown v st c r h = record {
  reached = r;
  frame = h.frame;
  homes = λ a. (
    named_slots v st c (HomeOf a) (at_home_with st a) (slots_seen (desk_listing v a).home) h (λ s. h.in_place (HomeOf a) s)
        (λ s. sym (at_home_is a (owner_of st s) (st.place s))),
    h.homes a,
  );
  lent = (
    named_slots v st c Loans (λ s. same_place OnLoan (st.place s)) (slots_seen v.lent) h (λ s. h.in_place Loans s)
        (λ s. sym (lent_named (owner_of st s) (st.place s))),
    h.lent,
  );
  caches = λ a. (
    named_slots v st c (CacheOf a) (is_at st (InCache a)) (slots_seen (desk_listing v a).cache) h (λ s. h.in_place (CacheOf a) s)
        (λ s. sym (in_cache_is a (owner_of st s) (st.place s))),
    h.cached a,
  );
  batches = λ b j d l. (batch_listed b j d l, h.queued b j d l);
}
  where
    batch_listed : (b j : ℕ) (d : BatchListing) → j < length (inbox_listing v b)
        → IsPermutation (slots_seen (get_or (inbox_listing v b) j d).buffers) (slots_at st (InBatch (get_or (inbox_listing v b) j d).batch.number))
    batch_listed b j d m = ⊎_elim
        (λ (l : b < length v.inboxes).
        let w = get_or (inbox_listing v b) j d in
        named_slots v st c (BatchOf w.batch.number) (λ s. same_place (InBatch w.batch.number) (st.place s)) (slots_seen w.buffers) h
        (λ s. ap (times s) (sym (batch_only v st h.frame h.sound.rising b j d l m)) ∙ h.in_place (BatchOf w.batch.number) s)
        (λ s. queued_is w.batch.number (owner_of st s) (st.place s)))
        (λ (l : length v.inboxes ≤ b).
        let none : length (inbox_listing v b) ≡ 0 = ap length (get_or-eq_default v.inboxes [] l) in
        absurd (omega (arith, none, m))) (cases_lt b (length v.inboxes))

-- ---- from lists to places

no_batch : BatchListing
no_batch = record { batch = record { number = 0; sender = 0; address = 0; linked = false }; buffers = [] }

row_zero : (s : Slot) (n : ℕ) (ws : List BatchListing) → ((j : ℕ) (d : BatchListing) → j < length ws → times s (if_numbered n (get_or ws j d)) ≡ 0)
    → times s (flat_map (if_numbered n) ws) ≡ 0
row_zero s n [] z = refl
row_zero s n (w ∷ ws) z =
    count_append (same_slot s) (if_numbered n w) (flat_map (if_numbered n) ws)
    ∙ ap₂ ◌+◌ (z zero w (omega arith)) (row_zero s n ws (λ j d l. z (suc j) d (omega arith)))

rows_zero : (s : Slot) (n : ℕ) (is : List (List BatchListing)) →
    ((b j : ℕ) (d : BatchListing) → j < length (get_or is b []) → times s (if_numbered n (get_or (get_or is b []) j d)) ≡ 0)
    → times s (flat_map (λ ws. flat_map (if_numbered n) ws) is) ≡ 0
rows_zero s n [] z = refl
rows_zero s n (ws ∷ is) z =
    count_append (same_slot s) (flat_map (if_numbered n) ws) (flat_map (λ us. flat_map (if_numbered n) us) is)
    ∙ ap₂ ◌+◌ (row_zero s n ws (λ j d l. z zero j d l)) (rows_zero s n is (λ b j d l. z (suc b) j d l))

module _ (v : Listing) (st : State) (c : Slot → ℕ) (h : Shown v st c) where
  sound : Sound st c
  sound = reached_sound st c h.reached

  -- a list that has the slots of a test has each slot that the machine names for it
  once_in : (l : ListName) (q : Slot → Bool) (xs : List Slot) → ((s : Slot) → q s ≡ is_list l (list_of st s)) → IsPermutation xs (filter q (slots st))
      → (s : Slot) → times s xs ≡ one_if (is_list l (list_of st s))
  once_in l q xs same p s =
      times_permuted s xs (filter q (slots st)) p ∙ (filtered_once st c q sound (within st c l q sound same) s ∙ ap one_if (same s))

  batch_once : (b j : ℕ) (d : BatchListing) → j < length (inbox_listing v b) → (s : Slot)
      → times s (slots_seen (get_or (inbox_listing v b) j d).buffers) ≡ one_if (is_list (BatchOf (get_or (inbox_listing v b) j d).batch.number) (list_of st s))
  batch_once b j d l s =
      let w = get_or (inbox_listing v b) j d in
      once_in (BatchOf w.batch.number) (λ r. same_place (InBatch w.batch.number) (st.place r)) (slots_seen w.buffers) (λ r. queued_is w.batch.number (owner_of st r) (st.place r))
      (h.batches b j d l).0 s

  -- all batches of a number have the slots that are in it
  numbered_once : (n : ℕ) (s : Slot) → times s (slots_in v (BatchOf n)) ≡ one_if (is_list (BatchOf n) (list_of st s))
  numbered_once n s = go (is_list (BatchOf n) (list_of st s)) refl
    where
      -- a slot in it: the batch waits, and stands in one inbox
      waits : (p : Option Place) → Fits st (owner_of st s) (c s) p → is_list (BatchOf n) (option_map (list_at (owner_of st s)) p) ≡ true
          → (u : Waiting) × Member u st.waiting × (u.number ≡ n)
      waits None f e = absurd (false≢true e)
      waits (Some AtHome) f e = absurd (false≢true e)
      waits (Some OnLoan) f e = absurd (false≢true e)
      waits (Some (InCache a)) f e = absurd (false≢true e)
      waits (Some (InBatch m)) f e = let w = f.1.1 in (w.0, w.1, w.2 ∙ sym (eqb-true n m e))

      there : (b j : ℕ) → j < length (inbox_listing v b) → (get_or (inbox_listing v b) j no_batch).batch.number ≡ n
          → times s (slots_in v (BatchOf n)) ≡ one_if (is_list (BatchOf n) (list_of st s))
      there b j l e = ⊎_elim
          (λ (k : b < length v.inboxes). subst (λ m. times s (slots_in v (BatchOf m)) ≡ one_if (is_list (BatchOf m) (list_of st s))) e
          (ap (times s) (batch_only v st h.frame sound.rising b j no_batch k l) ∙ batch_once b j no_batch l s))
          (λ (k : length v.inboxes ≤ b). let none : length (inbox_listing v b) ≡ 0 = ap length (get_or-eq_default v.inboxes [] k) in
          absurd (omega (arith, none, l))) (cases_lt b (length v.inboxes))

      -- no slot in it: no batch of the number has the slot
      none : is_list (BatchOf n) (list_of st s) ≡ false → (b j : ℕ) (d : BatchListing) → j < length (inbox_listing v b)
          → times s (if_numbered n (get_or (inbox_listing v b) j d)) ≡ 0
      none e b j d l = at (n == (get_or (inbox_listing v b) j d).batch.number) refl
        where
          at : (t : Bool) → (n == (get_or (inbox_listing v b) j d).batch.number) ≡ t → times s (if_numbered n (get_or (inbox_listing v b) j d)) ≡ 0
          at true q =
              ap (λ (t : Bool). times s (if t then slots_seen (get_or (inbox_listing v b) j d).buffers else [])) q
              ∙ (batch_once b j d l s
              ∙ ap one_if (ap (λ m. is_list (BatchOf m) (list_of st s)) (sym (eqb-true n (get_or (inbox_listing v b) j d).batch.number q)) ∙ e))
          at false q = ap (λ (t : Bool). times s (if t then slots_seen (get_or (inbox_listing v b) j d).buffers else [])) q

      go : (t : Bool) → is_list (BatchOf n) (list_of st s) ≡ t → times s (slots_in v (BatchOf n)) ≡ one_if (is_list (BatchOf n) (list_of st s))
      go true e =
          let u = waits (st.place s) (sound.fits s) e in
          let r = stands_there v st h.frame sound.rising u.0 u.1 in
          there u.0.address r.0 r.1 (ap (λ (w : Waiting). w.number) (sym (r.2 no_batch)) ∙ u.2)
      go false e = rows_zero s n v.inboxes (none e) ∙ ap one_if (sym e)

  places : (l : ListName) (s : Slot) → times s (slots_in v l) ≡ one_if (is_list l (list_of st s))
  places (HomeOf a) s = once_in (HomeOf a) (at_home_with st a) (slots_seen (desk_listing v a).home)
      (λ r. sym (at_home_is a (owner_of st r) (st.place r))) (h.homes a).0 s
  places Loans s = once_in Loans (λ r. same_place OnLoan (st.place r)) (slots_seen v.lent) (λ r. sym (lent_named (owner_of st r) (st.place r))) h.lent.0 s
  places (CacheOf a) s = once_in (CacheOf a) (is_at st (InCache a)) (slots_seen (desk_listing v a).cache)
      (λ r. sym (in_cache_is a (owner_of st r) (st.place r))) (h.caches a).0 s
  places (BatchOf n) s = numbered_once n s

  pub located : Located v st c
  located = record {
    sound = sound;
    frame = h.frame;
    in_place = places;
    homes = λ a. (h.homes a).1;
    lent = h.lent.1;
    cached = λ a. (h.caches a).1;
    queued = λ b j d l. (h.batches b j d l).1;
  }

  -- all lists joined are the slots of the drawn chunks
  pub shown_once : IsPermutation (joined v) (slots st)
  shown_once = permutation_from_times (joined v) (slots st) (λ s. located_once v st c located s ∙ sym (slots_once st c sound s))

-- ---- steps

pub applies : (v w : Listing) (q : Request) (y : Answer) → LocatedStep v q y w → Applies v q y w
applies v w q y f st c h =
    let g = f st c (located v st c h) in
    let count : Slot → ℕ = λ s. counted st q y s (c s) in
    let seen = shown w g.0 count (step_reached st g.0 c q y h.reached g.1) g.2 in
    (g.0, record { step = g.1; shown = seen; once = shown_once w g.0 count seen })

pub opening_shown : (desks chunks : ℕ) (digits : Scheme) (limit : ℕ) → IsScheme digits → desks ≤ 2 ^ digits.bits →
    Shown (opened desks chunks digits limit) (opening desks chunks digits limit) (λ s. 0)
opening_shown desks chunks digits limit i l =
    shown (opened desks chunks digits limit) (opening desks chunks digits limit) (λ s. 0)
    (opening_reached desks chunks digits limit i l) (opening_located desks chunks digits limit i l)
