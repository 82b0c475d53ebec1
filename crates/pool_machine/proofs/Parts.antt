-- The part of a list of buffers whose owners pass a test, and what replies tell of it.
use Rattle.std.proofs.Common.{◌≡◌, ◌^◌, ℕ, zero, suc, ◌+◌, ◌≤◌, Bool, true, false, ◌&&◌, nat_lt, cond, List, [], ◌∷◌, map, length, filter, get_or, All, Option, Some, None, is_some, option_map, refl, sym, ap, ap₂, ◌∙◌, subst, arith, zero-add, replicate}
use Rattle.std.proofs.lemmas.Bool.{false≢true, true≢false, and_parts}
use Rattle.std.proofs.lemmas.List.Elements.{All-head, All-tail}
use Rattle.std.proofs.lemmas.List.Sorted.{length_permutation}
use Rattle.region_cut.specs.declared.slot.Slot.{Slot}
use Rattle.region_cut.specs.Slots.{same_slot, times}
use Rattle.pool_machine.specs.Slots.{one_if}
use Rattle.pool_machine.specs.State.{State, Place, owner_of, slots, in_bucket, bucket, opening, is_slot, class_of, cached_bytes}
use Rattle.pool_machine.specs.Sound.{Sound}
use Rattle.pool_machine.specs.Listing.{slots_seen, Listing, DeskListing, Entry, BatchListing, desk_listing, empty_desk, Labelled, Counted}
use Rattle.pool_machine.proofs.Located.{ListName, HomeOf, Loans, CacheOf, BatchOf, list_at, list_of, is_list, slots_in, if_numbered, Located}
use Rattle.pool_machine.proofs.Basics.{same_slot_eq}
use Rattle.pool_machine.proofs.Enumerate.{count_cons}
use Rattle.pool_machine.proofs.Listed.{listed}
use Rattle.pool_machine.proofs.InPlace.{in_cache_is}
use Rattle.pool_machine.proofs.Openings.{opening_sound}
use Rattle.std.proofs.Common.{sum_by, flat_map}
use Rattle.std.proofs.lemmas.List.Sums.{sum_by-cons}
use Rattle.std.proofs.lemmas.List.{length-replicate}
use Rattle.digit_route.specs.Digits.{Scheme, IsScheme}
use Rattle.region_cut.specs.Classes.{size_of}
use Rattle.pool_machine.proofs.InPlace.{bytes_listed}
use Rattle.pool_machine.proofs.Words.{as_waiting, near}

module _ (st : State) (p : ℕ → Bool) where
  -- a test of the owner is a test of the slot
  pub part_times : (s : Slot) (xs : List Entry) → All (λ (e : Entry). e.owner ≡ owner_of st e.slot) xs →
      times s (slots_seen (filter (λ e. p e.owner) xs)) ≡ cond (p (owner_of st s)) (times s (slots_seen xs)) 0
  part_times s [] h = zeros (p (owner_of st s))
    where
      zeros : (b : Bool) → ◌≡◌ {A = ℕ} 0 (cond b 0 0)
      zeros true = refl
      zeros false = refl
  part_times s (x ∷ xs) h =
      go (p x.owner) refl (same_slot s x.slot) refl (p (owner_of st s)) refl
      (part_times s xs (All-tail (λ (e : Entry). e.owner ≡ owner_of st e.slot) x xs h))
    where
      agree : same_slot s x.slot ≡ true → p x.owner ≡ p (owner_of st s)
      agree m = ap p (All-head (λ (e : Entry). e.owner ≡ owner_of st e.slot) x xs h ∙ ap (owner_of st) (sym (same_slot_eq s x.slot m)))

      one : (b : Bool) → same_slot s x.slot ≡ b → (ys : List Slot) → times s (x.slot ∷ ys) ≡ one_if b + times s ys
      one b e ys = count_cons (same_slot s) x.slot ys ∙ ap (λ c. one_if c + times s ys) e

      go : (b : Bool) → p x.owner ≡ b → (e : Bool) → same_slot s x.slot ≡ e → (d : Bool) → p (owner_of st s) ≡ d →
          times s (slots_seen (filter (λ (e : Entry). p e.owner) xs)) ≡ cond d (times s (slots_seen xs)) 0 →
          times s (slots_seen (cond b (x ∷ filter (λ (e : Entry). p e.owner) xs) (filter (λ (e : Entry). p e.owner) xs))) ≡ cond d
          (times s (x.slot ∷ slots_seen xs)) 0
      go true k e m true r ih = one e m (slots_seen (filter (λ (e : Entry). p e.owner) xs))
          ∙ (ap (λ n. one_if e + n) ih ∙ sym (one e m (slots_seen xs)))
      go true k true m false r ih = absurd (true≢false (sym k ∙ (agree m ∙ r)))
      go true k false m false r ih = one false m (slots_seen (filter (λ (e : Entry). p e.owner) xs)) ∙ ap (λ n. 0 + n) ih
      go false k true m true r ih = absurd (false≢true (sym k ∙ (agree m ∙ r)))
      go false k false m true r ih = ih ∙ (sym (zero-add (times s (slots_seen xs))) ∙ sym (one false m (slots_seen xs)))
      go false k e m false r ih = ih

-- ---- what replies tell

length_seen : (xs : List Entry) → length (slots_seen xs) ≡ length xs
length_seen [] = refl
length_seen (x ∷ xs) = ap suc (length_seen xs)

-- the length of a part of a list that the machine names is the number of the slots there
pub part_length : (st : State) (c : Slot → ℕ) (l : ListName) (p : ℕ → Bool) (q : Slot → Bool) (xs : List Entry) → Sound st c →
    All (λ (e : Entry). e.owner ≡ owner_of st e.slot) xs →
    ((s : Slot) → times s (slots_seen xs) ≡ one_if (is_list l (list_of st s))) →
    ((s : Slot) → q s ≡ is_list l (list_of st s) && p (owner_of st s)) →
    length (filter q (slots st)) ≡ length (filter (λ (e : Entry). p e.owner) xs)
part_length st c l p q xs h labels once same =
    length_permutation (slots_seen (filter (λ (e : Entry). p e.owner) xs)) (filter q (slots st))
    (listed st c q (slots_seen (filter (λ (e : Entry). p e.owner) xs)) h within (λ s. part_times st p s xs labels ∙ joined s))
    ∙ length_seen (filter (λ (e : Entry). p e.owner) xs)
  where
    joined : (s : Slot) → cond (p (owner_of st s)) (times s (slots_seen xs)) 0 ≡ one_if (q s)
    joined s = ap (λ n. cond (p (owner_of st s)) n 0) (once s) ∙ (both (p (owner_of st s)) (is_list l (list_of st s)) ∙ ap one_if (sym (same s)))
      where
        both : (a b : Bool) → cond a (one_if b) 0 ≡ one_if (b && a)
        both true true = refl
        both true false = refl
        both false true = refl
        both false false = refl

    within : (s : Slot) → q s ≡ true → is_slot st s ≡ true
    within s e = sym (h.placed s) ∙ some (st.place s) (and_parts (is_list l (list_of st s)) (p (owner_of st s)) (sym (same s) ∙ e)).0
      where
        some : (o : Option Place) → is_list l (option_map (list_at (owner_of st s)) o) ≡ true → is_some o ≡ true
        some None e = e
        some (Some x) e = refl

-- the number of a bucket's slots, from the cache
pub bucket_length : (v : Listing) (st : State) (c : Slot → ℕ) (a t : ℕ) → Located v st c →
    length (bucket st a t) ≡ length (filter (λ (e : Entry). nat_lt (near st a t) (near st e.owner t)) (desk_listing v a).cache)
bucket_length v st c a t h =
    part_length st c (CacheOf a) (λ o. nat_lt (near st a t) (near st o t)) (in_bucket st a t) (desk_listing v a).cache h.sound
    (λ k d l. (h.cached a k d l).0) (λ s. h.in_place (CacheOf a) s)
    (λ s. ap (λ b. b && nat_lt (near st a t) (near st (owner_of st s) t)) (sym (in_cache_is a (owner_of st s) (st.place s))))

-- ---- the bytes in a cache

sizes_seen : (st : State) (xs : List Entry) → All (λ (e : Entry). e.class ≡ class_of st e.slot) xs →
    sum_by ((λ s. size_of (class_of st s))) (slots_seen xs) ≡ sum_by (λ (e : Entry). size_of e.class) xs
sizes_seen st [] h = refl
sizes_seen st (x ∷ xs) h =
    sum_by-cons ((λ s. size_of (class_of st s))) x.slot (slots_seen xs)
    ∙ (ap₂ ◌+◌ (ap size_of (sym (All-head (λ (e : Entry). e.class ≡ class_of st e.slot) x xs h)))
    (sizes_seen st xs (All-tail (λ (e : Entry). e.class ≡ class_of st e.slot) x xs h))
    ∙ sym (sum_by-cons (λ (e : Entry). size_of e.class) x xs))

-- the bytes in the cache of a are the sum of its buffers' sizes
pub bytes_seen : (v : Listing) (st : State) (c : Slot → ℕ) (a : ℕ) → Located v st c →
    cached_bytes st a ≡ sum_by (λ (e : Entry). size_of e.class) (desk_listing v a).cache
bytes_seen v st c a h =
    bytes_listed st c (slots_in v) a h.sound h.in_place
    ∙ sizes_seen st (desk_listing v a).cache (λ k d l. (h.cached a k d l).1)

-- ---- a new floor

abbrev pub opened : (desks chunks : ℕ) → Scheme → (limit : ℕ) → Listing
opened desks chunks digits limit = record {
  digits = digits;
  limit = limit;
  chunks = chunks;
  drawn = [];
  desks = replicate desks empty_desk;
  lent = [];
  inboxes = replicate desks [];
  next = 1;
}

same_read : {A : Type 0} (n : ℕ) (d : A) (k : ℕ) → get_or (replicate n d) k d ≡ d
same_read zero d k = refl
same_read (suc n) d zero = refl
same_read (suc n) d (suc k) = same_read n d k

no_batches : (s : Slot) (n m : ℕ) → times s (flat_map (λ ws. flat_map (if_numbered n) ws) (replicate m [])) ≡ 0
no_batches s n zero = refl
no_batches s n (suc m) = no_batches s n m

pub opening_located : (desks chunks : ℕ) (digits : Scheme) (limit : ℕ) → IsScheme digits → desks ≤ 2 ^ digits.bits →
    Located (opened desks chunks digits limit) (opening desks chunks digits limit) (λ s. 0)
opening_located desks chunks digits limit i l = record {
  sound = opening_sound desks chunks digits limit i l;
  frame = record {
    digits = refl;
    limit = refl;
    next = refl;
    desks = length-replicate desks empty_desk;
    inbox_count = length-replicate desks [];
    chunks = refl;
    drawn = λ k. refl;
    holder = λ a. ap (λ (d : DeskListing). d.worker) (same_read desks empty_desk a);
    inboxes = λ b. ap (map as_waiting) (same_read desks [] b);
  };
  in_place = λ k s. at k s;
  homes = λ a. subst (λ (d : DeskListing). All (Labelled (opening desks chunks digits limit)) d.home) (sym (same_read desks empty_desk a))
      (λ k d n. absurd (omega arith));
  lent = λ k d n. absurd (omega arith);
  cached = λ a. subst (λ (d : DeskListing). All (Counted (opening desks chunks digits limit) (λ s. 0)) d.cache) (sym (same_read desks empty_desk a))
      (λ k d n. absurd (omega arith));
  queued = λ b. subst (λ (ws : List BatchListing). All (λ (w : BatchListing). All
      (Counted (opening desks chunks digits limit) (λ s. 0)) w.buffers) ws) (sym (same_read desks [] b)) (λ k d n. absurd (omega arith));
}
  where
    at : (k : ListName) (s : Slot) → times s (slots_in (opened desks chunks digits limit) k) ≡ 0
    at (HomeOf a) s = ap (λ (d : DeskListing). times s (slots_seen d.home)) (same_read desks empty_desk a)
    at Loans s = refl
    at (CacheOf a) s = ap (λ (d : DeskListing). times s (slots_seen d.cache)) (same_read desks empty_desk a)
    at (BatchOf n) s = no_batches s n desks
