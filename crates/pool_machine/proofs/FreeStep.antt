-- A free, over the floor's lists.
use Rattle.std.proofs.Common.{◌≡◌, ◌≢◌, ℕ, zero, suc, ◌<◌, ◌≤◌, Bool, true, false, not, ◌==◌, cond, List, [], ◌∷◌, length, get_or, flat_map, count_by, All, Option, Some, None, option_map, if◌then◌else◌, IsPermutation, refl, sym, ap, ◌∙◌, subst, arith, length-set, le_trans, lt_of_lt_of_le, zero-le}
use Rattle.std.proofs.lemmas.Bool.{eqb-true, eqb-false, eq-eqb, ne_eqb, false≢true, true≢false, not-false}
use Rattle.std.proofs.lemmas.List.Sums.{get_or-le-sum_by}
use Rattle.std.proofs.lemmas.List.Elements.{All-head, All-tail, All-cons}
use Rattle.std.proofs.lemmas.List.Sorted.{All-permutation, IsPermutation-map, IsPermutation-sym}
use Rattle.region_cut.specs.declared.slot.Slot.{Slot}
use Rattle.pool_machine.specs.declared.request.Request.TheVariants.{Free}
use Rattle.region_cut.specs.Slots.{same_slot, times}
use Rattle.pool_machine.specs.Slots.{one_if}
use Rattle.pool_machine.specs.State.{State, Place, AtHome, OnLoan, InCache, InBatch, owner_of, same_place}
use Rattle.pool_machine.specs.Refusals.{refusal, lacks_desk, slot_named}
use Rattle.pool_machine.specs.Steps.{after_free, kept_place}
use Rattle.pool_machine.specs.Sound.{Sound}
use Rattle.pool_machine.specs.Listing.{slots_seen, Listing, DeskListing, Entry, BatchListing, desk_listing, Labelled, Counted, ShowsFrame}
use Rattle.pool_machine.proofs.Located.{inbox_listing, ListName, HomeOf, Loans, CacheOf, BatchOf, same_list, list_at, list_of, is_list, slots_in, if_numbered, Located}
use Rattle.pool_machine.proofs.Basics.{same_slot_eq, same_slot_self, none_holds}
use Rattle.pool_machine.proofs.Enumerate.{count_map, count_append}
use Rattle.pool_machine.proofs.Moves.{same_list_eq}
use Rattle.pool_machine.proofs.InPlace.{moved_in_place}
use Rattle.pool_machine.proofs.FloorSteps.{with_desk, desk_here, desk_other, desk_keeps}
use Rattle.pool_machine.proofs.Keeps.{free_step}
use Rattle.pool_machine.proofs.Words.{with_moved}

-- a buffer of a list is counted there
pub seen_counts : (xs : List Entry) (k : ℕ) (d : Entry) → k < length xs → 0 < times (get_or xs k d).slot (slots_seen xs)
seen_counts xs k d l =
    let s = (get_or xs k d).slot in
    let e = count_map (same_slot s) (λ (x : Entry). x.slot) xs in
    let m = get_or-le-sum_by (λ (x : Entry). cond (same_slot s x.slot) 1 0) xs k d l in
    let n : 1 ≤ count_by (λ (x : Entry). same_slot s x.slot) xs = subst (λ b. cond b 1 0 ≤ count_by (λ (x : Entry). same_slot s x.slot) xs)
    (same_slot_self s) m in
    subst (λ z. 0 < z) (sym e) n

pub batch_counts : (s : Slot) (n : ℕ) (ws : List BatchListing) (j : ℕ) (d : BatchListing) → j < length ws → (get_or ws j d).batch.number ≡ n →
    times s (slots_seen (get_or ws j d).buffers) ≤ times s (flat_map (if_numbered n) ws)
batch_counts s n [] j d l e = absurd (omega arith)
batch_counts s n (w ∷ ws) zero d l e =
    let f : times s (if_numbered n w) ≡ times s (slots_seen w.buffers) =
    ap (λ (b : Bool). times s (if b then slots_seen w.buffers else [])) (eq-eqb n w.batch.number (sym e)) in
    let g = count_append (same_slot s) (if_numbered n w) (flat_map (if_numbered n) ws) in
    omega (arith, f, g)
batch_counts s n (w ∷ ws) (suc j) d l e =
    let g = count_append (same_slot s) (if_numbered n w) (flat_map (if_numbered n) ws) in
    let h = batch_counts s n ws j d (omega arith) e in
    omega (arith, g, h)

pub inbox_counts : (s : Slot) (n : ℕ) (is : List (List BatchListing)) (b : ℕ) →
    times s (flat_map (if_numbered n) (get_or is b [])) ≤ times s (flat_map (λ ws. flat_map (if_numbered n) ws) is)
inbox_counts s n [] b = zero-le
inbox_counts s n (ws ∷ is) zero =
    let g = count_append (same_slot s) (flat_map (if_numbered n) ws) (flat_map (λ us. flat_map (if_numbered n) us) is) in
    omega (arith, g)
inbox_counts s n (ws ∷ is) (suc b) =
    let g = count_append (same_slot s) (flat_map (if_numbered n) ws) (flat_map (λ us. flat_map (if_numbered n) us) is) in
    let h = inbox_counts s n is b in
    omega (arith, g, h)

-- what is counted in a list is named there
pub named_there : (v : Listing) (st : State) (count : Slot → ℕ) → Located v st count → (l : ListName) (s : Slot) → 0 < times s (slots_in v l) →
    list_of st s ≡ Some l
named_there v st count h l s p = go (list_of st s) (subst (λ n. 0 < n) (h.in_place l s) p)
  where
    go : (o : Option ListName) → 0 < one_if (is_list l o) → o ≡ Some l
    go None q = absurd (omega arith)
    go (Some m) q = at (same_list l m) refl q
      where
        at : (b : Bool) → same_list l m ≡ b → 0 < one_if b → Some m ≡ Some l
        at true e q = ap Some (sym (same_list_eq l m e))
        at false e q = absurd (omega arith)

-- ---- what stays labelled

apart_slots : (st : State) (r s : Slot) (k : ListName) → list_of st r ≡ Some Loans → list_of st s ≡ Some k → same_list k Loans ≡ false →
    same_slot r s ≡ false
apart_slots st r s k e f g = go (same_slot r s) refl
  where
    go : (b : Bool) → same_slot r s ≡ b → b ≡ false
    go true q =
        let z : Some k ≡ Some Loans = sym f ∙ (ap (list_of st) (sym (same_slot_eq r s q)) ∙ e) in
        absurd (true≢false (sym (ap (is_list Loans) z) ∙ turned k g))
      where
        turned : (k : ListName) → same_list k Loans ≡ false → same_list Loans k ≡ false
        turned (HomeOf a) e = refl
        turned Loans e = e
        turned (CacheOf a) e = refl
        turned (BatchOf n) e = refl
    go false q = refl

label_stays : (st : State) (count : Slot → ℕ) (r : Slot) (q : Place) (f : Entry) → same_slot r f.slot ≡ false → Counted st count f →
    Counted (with_moved r q st) (λ s. if same_slot r s then 0 else count s) f
label_stays st count r q f e c = (c.0, c.1, c.2 ∙ ap (λ (b : Bool). if b then 0 else count f.slot) (sym e))

cached_stay : (v : Listing) (st : State) (count : Slot → ℕ) (r : Slot) (q : Place) (b : ℕ) → Located v st count → list_of st r ≡ Some Loans →
    All (Counted (with_moved r q st) (λ s. if same_slot r s then 0 else count s)) (desk_listing v b).cache
cached_stay v st count r q b h e = λ k d l.
    let f = get_or (desk_listing v b).cache k d in
    label_stays st count r q f
    (apart_slots st r f.slot (CacheOf b) e (named_there v st count h (CacheOf b) f.slot (seen_counts (desk_listing v b).cache k d l)) refl)
    (h.cached b k d l)

queued_stay : (v : Listing) (st : State) (count : Slot → ℕ) (r : Slot) (q : Place) (b : ℕ) → Located v st count → list_of st r ≡ Some Loans →
    All (λ (w : BatchListing). All (Counted (with_moved r q st) (λ s. if same_slot r s then 0 else count s)) w.buffers) (inbox_listing v b)
queued_stay v st count r q b h e = λ j d l. λ k c m.
    let w = get_or (inbox_listing v b) j d in
    let f = get_or w.buffers k c in
    let p = batch_counts f.slot w.batch.number (inbox_listing v b) j d l refl in
    let g = inbox_counts f.slot w.batch.number v.inboxes b in
    label_stays st count r q f
    (apart_slots st r f.slot (BatchOf w.batch.number) e
    (named_there v st count h (BatchOf w.batch.number) f.slot (lt_of_lt_of_le (seen_counts w.buffers k c m) (le_trans p g))) refl)
    (h.queued b j d l k c m)

-- ---- a free

-- what a free does to the floor's lists: the buffer leaves the lent ones, and goes home or into the cache of desk a
-- the buffer as it is freed
abbrev pub freed : Entry → Entry
freed e = record e { forwards = 0 }

pub record FreeEdits (v : Listing) (a : ℕ) (e : Entry) (lent : List Entry) (d : DeskListing) : Type 0 where
  pub leaves : IsPermutation (e ∷ lent) v.lent
  pub worker : d.worker ≡ (desk_listing v a).worker
  pub own : e.owner ≡ a → IsPermutation (freed e ∷ (desk_listing v a).home) d.home × (d.cache ≡ (desk_listing v a).cache)
  pub other : e.owner ≢ a → (d.home ≡ (desk_listing v a).home) × IsPermutation (freed e ∷ (desk_listing v a).cache) d.cache

abbrev pub after_edits : Listing → ℕ → List Entry → DeskListing → Listing
after_edits v a lent d = record (with_desk v a d) { lent = lent }

frame_shown : (v : Listing) (st : State) (count : Slot → ℕ) (a : ℕ) (e : Entry) (lent : List Entry) (d : DeskListing) (r : Slot) (q : Place) →
    Located v st count → a < length v.desks → FreeEdits v a e lent d → ShowsFrame (after_edits v a lent d) (with_moved r q st)
frame_shown v st count a e lent d r q h l f = record {
  digits = h.frame.digits;
  limit = h.frame.limit;
  next = h.frame.next;
  desks = length-set v.desks a d ∙ h.frame.desks;
  inbox_count = h.frame.inbox_count;
  chunks = h.frame.chunks;
  drawn = h.frame.drawn;
  holder = λ b. desk_keeps (λ p. p.worker) v a d l f.worker b ∙ h.frame.holder b;
  inboxes = h.frame.inboxes;
}

lent_is : (st : State) (s : Slot) → same_place OnLoan (st.place s) ≡ true → list_of st s ≡ Some Loans
lent_is st s e = go (st.place s) e
  where
    go : (p : Option Place) → same_place OnLoan p ≡ true → option_map (list_at (owner_of st s)) p ≡ Some Loans
    go None e = absurd (false≢true e)
    go (Some AtHome) e = absurd (false≢true e)
    go (Some OnLoan) e = refl
    go (Some (InCache a)) e = absurd (false≢true e)
    go (Some (InBatch n)) e = absurd (false≢true e)

pub slots_permuted : (xs ys : List Entry) → IsPermutation xs ys → IsPermutation (slots_seen xs) (slots_seen ys)
slots_permuted xs ys p = IsPermutation-map (λ (x : Entry). x.slot) xs ys p

module _ (v : Listing) (st : State) (count : Slot → ℕ) (a : ℕ) (e : Entry) (lent : List Entry) (d : DeskListing)
    (h : Located v st count) (l : a < length v.desks) (f : FreeEdits v a e lent d) (was : same_place OnLoan (st.place e.slot) ≡ true) where
  there : list_of st e.slot ≡ Some Loans
  there = lent_is st e.slot was

  labelled : All (Labelled st) (e ∷ lent)
  labelled = All-permutation (Labelled st) v.lent (e ∷ lent) (IsPermutation-sym (e ∷ lent) v.lent f.leaves) h.lent

  label : Labelled st e
  label = All-head (Labelled st) e lent labelled

  freed_home : owner_of st e.slot ≡ a → Sound (with_moved e.slot AtHome st) (λ s. if same_slot e.slot s then 0 else count s) →
      Located (after_edits v a lent d) (with_moved e.slot AtHome st) (λ s. if same_slot e.slot s then 0 else count s)
  freed_home o sound =
      let g = f.own (label.0 ∙ o) in
      record {
        sound = sound;
        frame = frame_shown v st count a e lent d e.slot AtHome h l f;
        in_place = moved_in_place st (slots_in v) (slots_in (after_edits v a lent d)) e.slot AtHome Loans h.in_place there refl
            (slots_permuted (e ∷ lent) v.lent f.leaves)
            (subst (λ b. IsPermutation (e.slot ∷ slots_seen (desk_listing v b).home) (slots_seen (desk_listing (with_desk v a d) b).home)) (sym o)
            (subst (λ p. IsPermutation (e.slot ∷ slots_seen (desk_listing v a).home) (slots_seen p.home)) (sym (desk_here v a d l))
            (slots_permuted (freed e ∷ (desk_listing v a).home) d.home g.0)))
            (λ k x y. others o g.1 k x y);
        homes = λ b. homes_at g.0 b (a == b) refl;
        lent = All-tail (Labelled st) e lent labelled;
        cached = λ b. subst (λ xs. All (Counted (with_moved e.slot AtHome st) (λ s. if same_slot e.slot s then 0 else count s)) xs)
            (sym (desk_keeps (λ p. p.cache) v a d l g.1 b)) (cached_stay v st count e.slot AtHome b h there);
        queued = λ b. queued_stay v st count e.slot AtHome b h there;
      }
    where
      homes_at : IsPermutation (freed e ∷ (desk_listing v a).home) d.home → (b : ℕ) (y : Bool) → (a == b) ≡ y →
          All (Labelled st) (desk_listing (with_desk v a d) b).home
      homes_at p b true q = subst (λ n. All (Labelled st) (desk_listing (with_desk v a d) n).home) (eqb-true a b q)
          (subst (λ (x : DeskListing). All (Labelled st) x.home) (sym (desk_here v a d l))
          (All-permutation (Labelled st) (freed e ∷ (desk_listing v a).home) d.home p
          (All-cons (Labelled st) (freed e) (desk_listing v a).home label (h.homes a))))
      homes_at p b false q = subst (λ (x : DeskListing). All (Labelled st) x.home) (sym (desk_other v a b d q)) (h.homes b)

      others : owner_of st e.slot ≡ a → d.cache ≡ (desk_listing v a).cache → (k : ListName) → same_list k Loans ≡ false →
          same_list k (HomeOf (owner_of st e.slot)) ≡ false →
          slots_in (after_edits v a lent d) k ≡ slots_in v k
      others o c (HomeOf b) x y = ap (λ p. slots_seen p.home) (desk_other v a b d (turned b y))
        where
          turned : (b : ℕ) → (b == owner_of st e.slot) ≡ false → (a == b) ≡ false
          turned b y = ne_eqb a b (λ q. eqb-false b (owner_of st e.slot) y (sym q ∙ sym o))
      others o c Loans x y = absurd (true≢false x)
      others o c (CacheOf b) x y = ap slots_seen (desk_keeps (λ p. p.cache) v a d l c b)
      others o c (BatchOf n) x y = refl

  freed_cache : owner_of st e.slot ≢ a → Sound (with_moved e.slot (InCache a) st) (λ s. if same_slot e.slot s then 0 else count s) →
      Located (after_edits v a lent d) (with_moved e.slot (InCache a) st) (λ s. if same_slot e.slot s then 0 else count s)
  freed_cache o sound =
      let g = f.other (λ q. o (sym label.0 ∙ q)) in
      record {
        sound = sound;
        frame = frame_shown v st count a e lent d e.slot (InCache a) h l f;
        in_place = moved_in_place st (slots_in v) (slots_in (after_edits v a lent d)) e.slot (InCache a) Loans h.in_place there refl
            (slots_permuted (e ∷ lent) v.lent f.leaves)
            (subst (λ p. IsPermutation (e.slot ∷ slots_seen (desk_listing v a).cache) (slots_seen p.cache)) (sym (desk_here v a d l))
            (slots_permuted (freed e ∷ (desk_listing v a).cache) d.cache g.1))
            (λ k x y. others g.0 k x y);
        homes = λ b. subst (λ xs. All (Labelled st) xs) (sym (desk_keeps (λ p. p.home) v a d l g.0 b)) (h.homes b);
        lent = All-tail (Labelled st) e lent labelled;
        cached = λ b. cached_at g.1 b (a == b) refl;
        queued = λ b. queued_stay v st count e.slot (InCache a) b h there;
      }
    where
      others : d.home ≡ (desk_listing v a).home → (k : ListName) → same_list k Loans ≡ false → same_list k (CacheOf a) ≡ false →
          slots_in (after_edits v a lent d) k ≡ slots_in v k
      others c (HomeOf b) x y = ap slots_seen (desk_keeps (λ p. p.home) v a d l c b)
      others c Loans x y = absurd (true≢false x)
      others c (CacheOf b) x y = ap (λ p. slots_seen p.cache) (desk_other v a b d (turned b y))
        where
          turned : (b : ℕ) → (b == a) ≡ false → (a == b) ≡ false
          turned b y = ne_eqb a b (λ q. eqb-false b a y (sym q))
      others c (BatchOf n) x y = refl

      Labels : List Entry → Type 0
      Labels xs = All (Counted (with_moved e.slot (InCache a) st) (λ s. if same_slot e.slot s then 0 else count s)) xs

      cached_at : IsPermutation (freed e ∷ (desk_listing v a).cache) d.cache → (b : ℕ) (y : Bool) → (a == b) ≡ y →
          Labels (desk_listing (with_desk v a d) b).cache
      cached_at p b true q = subst (λ n. Labels (desk_listing (with_desk v a d) n).cache) (eqb-true a b q)
          (subst (λ x. Labels x.cache) (sym (desk_here v a d l))
          (All-permutation (Counted (with_moved e.slot (InCache a) st) (λ s. if same_slot e.slot s then 0 else count s))
          (freed e ∷ (desk_listing v a).cache) d.cache p
          (All-cons (Counted (with_moved e.slot (InCache a) st) (λ s. if same_slot e.slot s then 0 else count s)) (freed e)
          (desk_listing v a).cache
          (label.0, label.1, ap (λ (x : Bool). if x then 0 else count e.slot) (sym (same_slot_self e.slot)))
          (cached_stay v st count e.slot (InCache a) a h there))))
      cached_at p b false q = subst (λ x. Labels x.cache) (sym (desk_other v a b d q)) (cached_stay v st count e.slot (InCache a) b h there)

-- the slot of an accepted free is lent
pub accepted_lent : (st : State) (a : ℕ) (pair : ℕ × ℕ) → refusal st (Free a pair) ≡ None → same_place OnLoan (st.place (slot_named pair)) ≡ true
accepted_lent st a pair n =
    let e1 = none_holds (lacks_desk st a) _ _ n in
    let e2 = none_holds _ _ _ e1.1 in
    let e3 = none_holds (not (same_place OnLoan (st.place (slot_named pair)))) _ _ e2.1 in
    not-false (same_place OnLoan (st.place (slot_named pair))) e3.0

-- an accepted free, whatever the owner
pub free_shown : (v : Listing) (st : State) (count : Slot → ℕ) (a : ℕ) (pair : ℕ × ℕ) (e : Entry) (lent : List Entry) (d : DeskListing) →
    Located v st count → a < length v.desks → refusal st (Free a pair) ≡ None → e.slot ≡ slot_named pair → FreeEdits v a e lent d →
    Located (after_edits v a lent d) (after_free st a (slot_named pair)) (λ s. if same_slot (slot_named pair) s then 0 else count s)
free_shown v st count a pair e lent d h l n z f = go (owner_of st (slot_named pair) == a) refl
  where
    was : same_place OnLoan (st.place e.slot) ≡ true
    was = ap (λ s. same_place OnLoan (st.place s)) z ∙ accepted_lent st a pair n

    sound : Sound (after_free st a (slot_named pair)) (λ s. if same_slot (slot_named pair) s then 0 else count s)
    sound = free_step st count a pair h.sound n

    Result : Slot → Place → Type 0
    Result s q = Located (after_edits v a lent d) (with_moved s q st) (λ r. if same_slot s r then 0 else count r)

    Before : Slot → Place → Type 0
    Before s q = Sound (with_moved s q st) (λ r. if same_slot s r then 0 else count r)

    go : (b : Bool) → (owner_of st (slot_named pair) == a) ≡ b → Result (slot_named pair) (kept_place st a (slot_named pair))
    go true q =
        let p : kept_place st a (slot_named pair) ≡ AtHome = ap (λ (x : Bool). if x then AtHome else InCache a) q in
        subst (λ x. Result (slot_named pair) x) (sym p) (subst (λ x. Result x AtHome) z
        (freed_home v st count a e lent d h l f was (ap (owner_of st) z ∙ eqb-true (owner_of st (slot_named pair)) a q)
        (subst (λ x. Before x AtHome) (sym z) (subst (λ x. Before (slot_named pair) x) p sound))))
    go false q =
        let p : kept_place st a (slot_named pair) ≡ InCache a = ap (λ (x : Bool). if x then AtHome else InCache a) q in
        subst (λ x. Result (slot_named pair) x) (sym p) (subst (λ x. Result x (InCache a)) z
        (freed_cache v st count a e lent d h l f was (λ o. eqb-false (owner_of st (slot_named pair)) a q (ap (owner_of st) (sym z) ∙ o))
        (subst (λ x. Before x (InCache a)) (sym z) (subst (λ x. Before (slot_named pair) x) p sound))))
