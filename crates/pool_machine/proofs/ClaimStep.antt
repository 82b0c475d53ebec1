-- A claim, over the floor's lists.
use Rattle.std.proofs.Common.{◌≡◌, ℕ, ◌+◌, ◌<◌, Bool, true, false, ◌&&◌, ◌==◌, nat_lt, cond, List, [], ◌∷◌, ◌++◌, map, length, get_or, All, Option, Some, None, Ok, is_some, option_map, if◌then◌else◌, IsPermutation, refl, sym, ap, ◌∙◌, subst, arith, length-set, zero-add}
use Rattle.std.specs.List.{range_with_len, slice_get}
use Rattle.std.proofs.Common.{zero, suc, ap₂}
use Rattle.std.proofs.lemmas.Option.{slice_get_past}
use Rattle.std.proofs.lemmas.Bool.Decides.{nat_tests}
use Rattle.pool_machine.specs.declared.chunk.DrawnChunk.{DrawnChunk}
use Rattle.std.proofs.lemmas.Bool.{eqb-true, eq-eqb, true≢false, leb-false}
use Rattle.std.proofs.lemmas.List.Elements.{All-append, All-map}
use Rattle.std.proofs.lemmas.List.{map-append}
use Rattle.std.proofs.lemmas.List.Sorted.{All-permutation, sum_by-IsPermutation}
use Rattle.region_cut.specs.declared.slot.Slot.{Slot}
use Rattle.pool_machine.specs.declared.request.Request.TheVariants.{Claim}
use Rattle.pool_machine.specs.declared.reply.Reply.TheVariants.{Chunk}
use Rattle.region_cut.specs.Classes.{slots_of}
use Rattle.region_cut.specs.Slots.{same_slot, times}
use Rattle.pool_machine.specs.Slots.{has_index, one_if}
use Rattle.pool_machine.specs.State.{State, Place, AtHome, owner_of}
use Rattle.pool_machine.specs.Refusals.{refusal}
use Rattle.pool_machine.specs.Steps.{with_chunk}
use Rattle.pool_machine.specs.Listing.{slots_seen, Listing, DeskListing, Entry, BatchListing, desk_listing, Labelled, Counted}
use Rattle.pool_machine.proofs.Located.{inbox_listing, ListName, HomeOf, Loans, CacheOf, BatchOf, same_list, list_at, list_of, is_list, slots_in, Located, LocatedStep}
use Rattle.pool_machine.proofs.Basics.{none_holds}
use Rattle.pool_machine.proofs.Enumerate.{count_append, chunk_times}
use Rattle.pool_machine.proofs.FloorSteps.{with_desk, desk_here, desk_other, desk_keeps}
use Rattle.pool_machine.proofs.FreeStep.{slots_permuted}
use Rattle.pool_machine.proofs.Keeps.{claim_step}
use Rattle.pool_machine.proofs.PartBy.{eqb_turn}
use Rattle.pool_machine.proofs.Places.{home_place, lent_place, cache_place, queued_place, All-both, placed_named}
use Rattle.pool_machine.proofs.Refusals.{refusal_seen, refusal_agrees}
use Rattle.pool_machine.proofs.Words.{class_or, owner_or}

-- the buffers of a chunk that desk a draws for class c
abbrev pub chunk_buffer : ℕ → ℕ → ℕ → ℕ → Entry
chunk_buffer k a c i = record { slot = record { chunk = k; index = i }; class = c; owner = a; forwards = 0 }

abbrev pub chunk_buffers : ℕ → ℕ → ℕ → List Entry
chunk_buffers k a c = map (chunk_buffer k a c) (range_with_len 0 (slots_of c))

pub record ClaimEdits (v : Listing) (a c k : ℕ) (d : DeskListing) : Type 0 where
  pub next : k ≡ length v.drawn
  pub undrawn : length v.drawn < v.chunks
  pub home : IsPermutation (chunk_buffers k a c ++ (desk_listing v a).home) d.home
  pub worker : d.worker ≡ (desk_listing v a).worker
  pub cache : d.cache ≡ (desk_listing v a).cache

abbrev pub after_claim : Listing → ℕ → ℕ → ℕ → DeskListing → Listing
after_claim v a c k d = record (with_desk v a d) { drawn = v.drawn ++ record { owner = a; class = c } ∷ [] }

-- one more at the end
slice_get-push : {A : Type 0} (xs : List A) (x : A) (m : ℕ) → slice_get (xs ++ x ∷ []) m ≡ (if length xs == m then Some x else slice_get xs m)
slice_get-push [] x zero = refl
slice_get-push [] x (suc m) =
    let other : (0 == suc m) ≡ false = grind (arith, nat_tests) in
    ap (λ (b : Bool). if b then Some x else None) (sym other)
slice_get-push (y ∷ ys) x zero =
    let other : (length (y ∷ ys) == 0) ≡ false = grind (arith, nat_tests) in
    ap (λ (b : Bool). if b then Some x else Some y) (sym other)
slice_get-push (y ∷ ys) x (suc m) =
    let same : (length ys == m) ≡ (length (y ∷ ys) == suc m) = grind (arith, nat_tests) in
    slice_get-push ys x m ∙ ap (λ (b : Bool). if b then Some x else slice_get ys m) same

slots_of_buffers : (k a c : ℕ) (is : List ℕ) → slots_seen (map (chunk_buffer k a c) is) ≡ map (λ i. record { chunk = k; index = i }) is
slots_of_buffers k a c [] = refl
slots_of_buffers k a c (i ∷ is) = ap (λ ss. record { chunk = k; index = i } ∷ ss) (slots_of_buffers k a c is)

module _ (v : Listing) (st : State) (count : Slot → ℕ) (a c k : ℕ) (d : DeskListing)
    (h : Located v st count) (l : a < length v.desks) (f : ClaimEdits v a c k d) where
  abbrev new : State
  new = with_chunk k a c st

  un : st.drawn k ≡ None
  un = sym (h.frame.drawn k) ∙ slice_get_past v.drawn k (let e = f.next in omega arith)

  below : k < st.chunks
  below = let e = f.next in let u = f.undrawn in let c = h.frame.chunks in omega (arith, e, u, c)

  -- a slot with a place is in another chunk
  elsewhere : (s : Slot) → is_some (st.place s) ≡ true → (k == s.chunk) ≡ false
  elsewhere s e = go (k == s.chunk) refl
    where
      go : (b : Bool) → (k == s.chunk) ≡ b → b ≡ false
      go true q = absurd (true≢false (sym e ∙ (h.sound.placed s ∙ (ap (λ n. has_index s.index (st.drawn n)) (sym (eqb-true k s.chunk q))
          ∙ ap (has_index s.index) un))))
      go false q = refl

  same_drawn : (s : Slot) → is_some (st.place s) ≡ true → st.drawn s.chunk ≡ new.drawn s.chunk
  same_drawn s e = ap (λ (b : Bool). if b then Some (record { owner = a; class = c }) else st.drawn s.chunk) (sym (elsewhere s e))

  label : (m : ListName) (e : Entry) → list_of st e.slot ≡ Some m → Labelled st e → Labelled new e
  label m e p q =
      let z = same_drawn e.slot (placed_named st e.slot m p) in
      (q.0 ∙ ap owner_or z, q.1 ∙ ap class_or z)

  relabel : (m : ListName) (e : Entry) → list_of st e.slot ≡ Some m → Counted st count e → Counted new count e
  relabel m e p q = let z = label m e p (q.0, q.1) in (z.0, z.1, q.2)

  drawn_here : (i : ℕ) → Labelled new (chunk_buffer k a c i)
  drawn_here i =
      let z : Some (record { owner = a; class = c }) ≡ new.drawn k = ap
      (λ (b : Bool). if b then Some (record { owner = a; class = c }) else st.drawn k) (sym (eq-eqb k k refl)) in
      (ap owner_or z, ap class_or z)

  home_labels : All (Labelled new) d.home
  home_labels = All-permutation (Labelled new) (chunk_buffers k a c ++ (desk_listing v a).home) d.home f.home
      (All-append (Labelled new) (chunk_buffers k a c) (desk_listing v a).home
      (All-map (Labelled new) (chunk_buffer k a c) (range_with_len 0 (slots_of c)) (λ i e m. drawn_here (get_or (range_with_len 0 (slots_of c)) i e)))
      (All-both (λ (e : Entry). list_of st e.slot ≡ Some (HomeOf a)) (Labelled st) (Labelled new) (desk_listing v a).home (label (HomeOf a))
      (home_place v st count h a) (h.homes a)))

  homes_at : (b : ℕ) (y : Bool) → (a == b) ≡ y → All (Labelled new) (desk_listing (with_desk v a d) b).home
  homes_at b true q = subst (λ m. All (Labelled new) (desk_listing (with_desk v a d) m).home) (eqb-true a b q)
      (subst (λ (x : DeskListing). All (Labelled new) x.home) (sym (desk_here v a d l)) home_labels)
  homes_at b false q = subst (λ (x : DeskListing). All (Labelled new) x.home) (sym (desk_other v a b d q))
      (All-both (λ (e : Entry). list_of st e.slot ≡ Some (HomeOf b)) (Labelled st) (Labelled new) (desk_listing v b).home (label (HomeOf b))
      (home_place v st count h b) (h.homes b))

  -- the slots of the new chunk
  in_chunk : Slot → Bool
  in_chunk s = (k == s.chunk) && nat_lt s.index (slots_of c)

  chunk_once : (s : Slot) → times s (slots_seen (chunk_buffers k a c)) ≡ one_if (in_chunk s)
  unfolding in_chunk
  chunk_once s = ap (times s) (slots_of_buffers k a c (range_with_len 0 (slots_of c)))
      ∙ (chunk_times s k (Some (record { owner = a; class = c })) ∙ ap (λ b. one_if (b && nat_lt s.index (slots_of c))) (eqb_turn s.chunk k))

  home_times : (s : Slot) → times s (slots_seen d.home) ≡ one_if (in_chunk s) + times s (slots_seen (desk_listing v a).home)
  home_times s =
      sum_by-IsPermutation (λ x. cond (same_slot s x) 1 0) (slots_seen (chunk_buffers k a c ++ (desk_listing v a).home)) (slots_seen d.home)
      (slots_permuted (chunk_buffers k a c ++ (desk_listing v a).home) d.home f.home)
      ∙ (ap (times s) (map-append (λ (x : Entry). x.slot) (chunk_buffers k a c) (desk_listing v a).home)
      ∙ (count_append (same_slot s) (slots_seen (chunk_buffers k a c)) (slots_seen (desk_listing v a).home)
      ∙ ap (λ n. n + times s (slots_seen (desk_listing v a).home)) (chunk_once s)))

  -- the lists after a claim, by the lists before
  list_times : (m : ListName) (s : Slot) → times s (slots_in (after_claim v a c k d) m) ≡ one_if (in_chunk s && same_list m (HomeOf a)) + times s
      (slots_in v m)
  list_times (HomeOf b) s = go (a == b) refl
    where
      none : (x : Bool) → 0 ≡ one_if (x && false)
      none true = refl
      none false = refl

      all : (x : Bool) → one_if x ≡ one_if (x && true)
      all true = refl
      all false = refl

      go : (y : Bool) → (a == b) ≡ y → times s (slots_seen (desk_listing (with_desk v a d) b).home) ≡ one_if (in_chunk s && (b == a)) + times s
          (slots_seen (desk_listing v b).home)
      go true q = subst (λ m. times s (slots_seen (desk_listing (with_desk v a d) m).home) ≡ one_if (in_chunk s && (m == a)) + times s
          (slots_seen (desk_listing v m).home)) (eqb-true a b q)
          (ap (λ (p : DeskListing). times s (slots_seen p.home)) (desk_here v a d l)
          ∙ (home_times s ∙ ap (λ n. n + times s (slots_seen (desk_listing v a).home))
          (all (in_chunk s) ∙ ap (λ b. one_if (in_chunk s && b)) (sym (eq-eqb a a refl)))))
      go false q = ap (λ (p : DeskListing). times s (slots_seen p.home)) (desk_other v a b d q)
          ∙ (sym (zero-add (times s (slots_seen (desk_listing v b).home)))
          ∙ ap (λ n. n + times s (slots_seen (desk_listing v b).home))
          (none (in_chunk s) ∙ ap (λ x. one_if (in_chunk s && x)) (sym (eqb_turn b a ∙ q))))
  list_times Loans s = plain (in_chunk s) (times s (slots_seen v.lent))
    where
      plain : (x : Bool) (n : ℕ) → n ≡ one_if (x && false) + n
      plain true n = sym (zero-add n)
      plain false n = sym (zero-add n)
  list_times (CacheOf b) s = ap (λ xs. times s (slots_seen xs)) (desk_keeps (λ p. p.cache) v a d l f.cache b)
      ∙ plain (in_chunk s) (times s (slots_seen (desk_listing v b).cache))
    where
      plain : (x : Bool) (n : ℕ) → n ≡ one_if (x && false) + n
      plain true n = sym (zero-add n)
      plain false n = sym (zero-add n)
  list_times (BatchOf n) s = plain (in_chunk s) (times s (slots_in v (BatchOf n)))
    where
      plain : (x : Bool) (n : ℕ) → n ≡ one_if (x && false) + n
      plain true n = sym (zero-add n)
      plain false n = sym (zero-add n)

  unplaced : (s : Slot) → (k == s.chunk) ≡ true → st.place s ≡ None
  unplaced s q = go (st.place s) (h.sound.placed s ∙ (ap (λ n. has_index s.index (st.drawn n)) (sym (eqb-true k s.chunk q))
      ∙ ap (has_index s.index) un))
    where
      go : (p : Option Place) → is_some p ≡ false → p ≡ None
      go None e = refl
      go (Some x) e = absurd (true≢false e)

  place_claimed : (m : ListName) (s : Slot) → times s (slots_in (after_claim v a c k d) m) ≡ one_if (is_list m (list_of new s))
  unfolding in_chunk
  place_claimed m s = list_times m s ∙ go (k == s.chunk) refl (nat_lt s.index (slots_of c)) refl
    where
      old_none : (k == s.chunk) ≡ true → times s (slots_in v m) ≡ 0
      old_none q = h.in_place m s ∙ ap (λ p. one_if (is_list m (option_map (list_at (owner_of st s)) p))) (unplaced s q)

      go : (x : Bool) → (k == s.chunk) ≡ x → (y : Bool) → nat_lt s.index (slots_of c) ≡ y →
          one_if ((x && y) && same_list m (HomeOf a)) + times s (slots_in v m)
          ≡ one_if (is_list m (option_map (list_at (owner_or (if x then Some (record { owner = a; class = c }) else st.drawn s.chunk)))
          (if x && y then Some AtHome else st.place s)))
      go true q true r = let z = old_none q in omega (arith, z)
      go true q false r = ap (λ n. 0 + n) (old_none q) ∙ ap (λ p. one_if (is_list m (option_map (list_at a) p))) (sym (unplaced s q))
      go false q y r = zero-add (times s (slots_in v m)) ∙ h.in_place m s

  drawn_at : (m : ℕ) → slice_get (v.drawn ++ record { owner = a; class = c } ∷
      []) m ≡ (if k == m then Some (record { owner = a; class = c }) else st.drawn m)
  drawn_at m = slice_get-push v.drawn (record { owner = a; class = c }) m
      ∙ ap₂ (λ n (o : Option DrawnChunk). if n == m then Some (record { owner = a; class = c }) else o) (sym f.next) (h.frame.drawn m)

  pub claim_shown : refusal st (Claim a c) ≡ None → Located (after_claim v a c k d) (with_chunk k a c st) count
  claim_shown z = record {
    sound = claim_step st count a c k h.sound z (below, un);
    frame = record {
      digits = h.frame.digits;
      limit = h.frame.limit;
      next = h.frame.next;
      desks = length-set v.desks a d ∙ h.frame.desks;
      inbox_count = h.frame.inbox_count;
      chunks = h.frame.chunks;
      drawn = drawn_at;
      holder = λ b. desk_keeps (λ p. p.worker) v a d l f.worker b ∙ h.frame.holder b;
      inboxes = h.frame.inboxes;
    };
    in_place = place_claimed;
    homes = λ b. homes_at b (a == b) refl;
    lent = All-both (λ (e : Entry). list_of st e.slot ≡ Some Loans) (Labelled st) (Labelled new) v.lent (label Loans)
        (lent_place v st count h) h.lent;
    cached = λ b. subst (λ xs. All (Counted new count) xs) (sym (desk_keeps (λ p. p.cache) v a d l f.cache b))
        (All-both (λ (e : Entry). list_of st e.slot ≡ Some (CacheOf b)) (Counted st count) (Counted new count) (desk_listing v b).cache
        (relabel (CacheOf b)) (cache_place v st count h b) (h.cached b));
    queued = λ b. All-both (λ (w : BatchListing). All (λ (e : Entry). list_of st e.slot ≡ Some (BatchOf w.batch.number)) w.buffers)
        (λ (w : BatchListing). All (Counted st count) w.buffers)
        (λ (w : BatchListing). All (Counted new count) w.buffers) (inbox_listing v b)
        (λ w p q. All-both (λ (e : Entry). list_of st e.slot ≡ Some (BatchOf w.batch.number)) (Counted st count) (Counted new count) w.buffers
        (relabel (BatchOf w.batch.number)) p q)
        (queued_place v st count h b) (h.queued b);
  }

  pub claim_fits : (k < st.chunks) × (st.drawn k ≡ None)
  claim_fits = (below, un)

-- an accepted claim
pub claim_applies : (v : Listing) (a c k : ℕ) (d : DeskListing) → refusal_seen v (Claim a c) ≡ None → ClaimEdits v a c k d →
    LocatedStep v (Claim a c) (Ok (Chunk k)) (after_claim v a c k d)
claim_applies v a c k d z f st count h =
    let l = leb-false (length v.desks) a (none_holds _ _ _ z).0 in
    let n = refusal_agrees v st count h (Claim a c) ∙ z in (
      with_chunk k a c st,
      ((n, claim_fits v st count a c k d h l f), refl),
      claim_shown v st count a c k d h l f n,
    )
