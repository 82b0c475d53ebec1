-- A send, over the floor's lists.
use Rattle.std.proofs.Common.{append_assoc, ◌≡◌, ℕ, zero, suc, ◌+◌, ◌<◌, Bool, true, false, not, ◌==◌, nat_lt, cond, List, [], ◌∷◌, ◌++◌, map, length, filter, set, get_or, flat_map, All, None, if◌then◌else◌, IsPermutation, refl, sym, ap, ap₂, ◌∙◌, subst, arith, length-set, add-zero, append-nil, get_or-set_same, get_or-set_other}
use Rattle.std.proofs.lemmas.Bool.{eqb-true, eqb-false, eq-eqb, ne_eqb}
use Rattle.std.proofs.lemmas.List.Elements.{All-filter, All-push, filter-append}
use Rattle.std.proofs.lemmas.List.{map-append}
use Rattle.std.proofs.lemmas.List.Sorted.{All-permutation, sum_by-IsPermutation, IsPermutation-map}
use Rattle.region_cut.specs.declared.slot.Slot.{Slot}
use Rattle.pool_machine.specs.declared.request.Request.TheVariants.{Send}
use Rattle.region_cut.specs.Slots.{same_slot, times}
use Rattle.pool_machine.specs.State.{State, Waiting, owner_of, inbox}
use Rattle.pool_machine.specs.Refusals.{refusal}
use Rattle.pool_machine.specs.Steps.{after_send}
use Rattle.pool_machine.specs.Listing.{slots_seen, Listing, DeskListing, Entry, BatchListing, desk_listing, Labelled, Counted}
use Rattle.pool_machine.proofs.Located.{inbox_listing, ListName, HomeOf, Loans, CacheOf, BatchOf, same_list, slots_in, if_numbered, Located}
use Rattle.pool_machine.proofs.Enumerate.{count_append}
use Rattle.pool_machine.proofs.Moves.{SomeMove}
use Rattle.pool_machine.proofs.InPlace.{sent_in_place}
use Rattle.pool_machine.proofs.Parts.{part_times}
use Rattle.pool_machine.proofs.FloorSteps.{with_desk, desk_here, desk_other, desk_keeps}
use Rattle.pool_machine.proofs.Keeps.{send_step}
use Rattle.pool_machine.proofs.Words.{as_waiting, near}

-- whether the bucket for t takes the buffers of an owner
abbrev pub nearer_owner : State → ℕ → ℕ → ℕ → Bool
nearer_owner st a t o = nat_lt (near st a t) (near st o t)

-- what a send does to the floor's lists
pub record SendEdits (v : Listing) (st : State) (a t : ℕ) (bs : List Entry) (d : DeskListing) : Type 0 where
  pub worker : d.worker ≡ (desk_listing v a).worker
  pub home : d.home ≡ (desk_listing v a).home
  pub taken : IsPermutation (filter (λ (e : Entry). nearer_owner st a t e.owner) (desk_listing v a).cache) bs
  pub left : IsPermutation (filter (λ (e : Entry). not (nearer_owner st a t e.owner)) (desk_listing v a).cache) d.cache

abbrev pub new_batch : Listing → ℕ → ℕ → List Entry → BatchListing
new_batch v a t bs = record { batch = record { number = v.next; sender = a; address = t; linked = false }; buffers = bs }

abbrev pub after_sending : Listing → ℕ → ℕ → List Entry → DeskListing → Listing
after_sending v a t bs d = record (with_desk v a d) { inboxes = set v.inboxes t (inbox_listing v t ++ new_batch v a t bs ∷ []); next = suc v.next }

flat_append : {A B : Type 0} (f : A → List B) (xs ys : List A) → flat_map f (xs ++ ys) ≡ flat_map f xs ++ flat_map f ys
flat_append f [] ys = refl
flat_append f (x ∷ xs) ys = ap (λ zs. f x ++ zs) (flat_append f xs ys) ∙ sym (append_assoc (f x) (flat_map f xs) (flat_map f ys))

-- one more batch in one inbox
pub one_more : (s : Slot) (n : ℕ) (w : BatchListing) (is : List (List BatchListing)) (t : ℕ) → t < length is →
    times s (flat_map (λ ws. flat_map (if_numbered n) ws) (set is t (get_or is t [] ++ w ∷ [])))
    ≡ times s (flat_map (λ ws. flat_map (if_numbered n) ws) is) + times s (if_numbered n w)
one_more s n w [] t l = absurd (omega arith)
one_more s n w (ws ∷ is) zero l =
    let a = count_append (same_slot s) (flat_map (if_numbered n) (ws ++ w ∷ [])) (flat_map (λ us. flat_map (if_numbered n) us) is) in
    let b = ap (times s) (flat_append (if_numbered n) ws (w ∷ [])) ∙ count_append (same_slot s) (flat_map (if_numbered n) ws)
    (flat_map (if_numbered n) (w ∷ [])) in
    let c = count_append (same_slot s) (flat_map (if_numbered n) ws) (flat_map (λ us. flat_map (if_numbered n) us) is) in
    let d = ap (times s) (append-nil (if_numbered n w)) in
    omega (arith, a, b, c, d)
one_more s n w (ws ∷ is) (suc t) l =
    let a = count_append (same_slot s) (flat_map (if_numbered n) ws) (flat_map (λ us. flat_map (if_numbered n) us)
    (set is t (get_or is t [] ++ w ∷ []))) in
    let b = one_more s n w is t (omega arith) in
    let c = count_append (same_slot s) (flat_map (if_numbered n) ws) (flat_map (λ us. flat_map (if_numbered n) us) is) in
    omega (arith, a, b, c)

pub seen_permuted : (s : Slot) (xs ys : List Entry) → IsPermutation xs ys → times s (slots_seen ys) ≡ times s (slots_seen xs)
seen_permuted s xs ys p = sum_by-IsPermutation (λ x. cond (same_slot s x) 1 0) (slots_seen xs) (slots_seen ys)
    (IsPermutation-map (λ (x : Entry). x.slot) xs ys p)

module _ (v : Listing) (st : State) (count : Slot → ℕ) (a t : ℕ) (bs : List Entry) (d : DeskListing)
    (h : Located v st count) (al : a < length v.desks) (tl : t < length v.inboxes) (f : SendEdits v st a t bs d) where
  owners : All (λ (e : Entry). e.owner ≡ owner_of st e.slot) (desk_listing v a).cache
  owners = λ k e l. (h.cached a k e l).0

  goes : Slot → Bool
  goes s = nearer_owner st a t (owner_of st s)

  left_times : (s : Slot) → times s (slots_seen d.cache) ≡ cond (goes s) 0 (times s (slots_seen (desk_listing v a).cache))
  unfolding goes
  left_times s = seen_permuted s _ d.cache f.left ∙ (part_times st (λ o. not (nearer_owner st a t o)) s (desk_listing v a).cache owners
      ∙ turned (nearer_owner st a t (owner_of st s)))
    where
      turned : (b : Bool) → cond (not b) (times s (slots_seen (desk_listing v a).cache)) 0 ≡ cond b 0 (times s (slots_seen (desk_listing v a).cache))
      turned true = refl
      turned false = refl

  taken_times : (s : Slot) → times s (slots_seen bs) ≡ cond (goes s) (times s (slots_seen (desk_listing v a).cache)) 0
  unfolding goes
  taken_times s = seen_permuted s _ bs f.taken ∙ part_times st (nearer_owner st a t) s (desk_listing v a).cache owners

  moves : SomeMove (λ k s. times s (slots_in v k)) (λ k s. times s (slots_in (after_sending v a t bs d) k)) (CacheOf a) (BatchOf st.next)
      (λ s. nearer_owner st a t (owner_of st s))
  unfolding goes
  moves = record {
    apart = refl;
    leave = λ s. ap (λ (p : DeskListing). times s (slots_seen p.cache)) (desk_here v a d al) ∙ left_times s;
    arrive = λ s. one_more s st.next (new_batch v a t bs) v.inboxes t tl
        ∙ ap (λ n. times s (slots_in v (BatchOf st.next)) + n) (ap (λ (b : Bool). times s (if b then slots_seen bs else []))
        (eq-eqb st.next v.next (sym h.frame.next)) ∙ taken_times s);
    stay = λ k s x y. stays k s x y;
  }
    where
      stays : (k : ListName) (s : Slot) → same_list k (CacheOf a) ≡ false → same_list k (BatchOf st.next) ≡ false →
          times s (slots_in (after_sending v a t bs d) k) ≡ times s (slots_in v k)
      stays (HomeOf b) s x y = ap (λ xs. times s (slots_seen xs)) (desk_keeps (λ p. p.home) v a d al f.home b)
      stays Loans s x y = refl
      stays (CacheOf b) s x y = ap (λ (p : DeskListing). times s (slots_seen p.cache))
          (desk_other v a b d (ne_eqb a b (λ q. eqb-false b a x (sym q))))
      stays (BatchOf m) s x y = one_more s m (new_batch v a t bs) v.inboxes t tl
          ∙ (ap (λ n. times s (slots_in v (BatchOf m)) + n)
          (ap (λ (b : Bool). times s (if b then slots_seen bs else [])) (ap (λ n. m == n) h.frame.next ∙ y))
          ∙ add-zero (times s (slots_in v (BatchOf m))))

  same_label : (e : Entry) → Counted st count e → Counted (after_send st a t) count e
  same_label e c = (c.0, c.1, c.2)

  new_labels : All (Counted (after_send st a t) count) bs
  new_labels = All-permutation (Counted (after_send st a t) count) _ bs f.taken
      (All-filter (λ (e : Entry). nearer_owner st a t e.owner) (Counted (after_send st a t) count) (desk_listing v a).cache
      (λ k e l. same_label _ (h.cached a k e l)))

  left_labels : All (Counted (after_send st a t) count) d.cache
  left_labels = All-permutation (Counted (after_send st a t) count) _ d.cache f.left
      (All-filter (λ (e : Entry). not (nearer_owner st a t e.owner)) (Counted (after_send st a t) count) (desk_listing v a).cache
      (λ k e l. same_label _ (h.cached a k e l)))

  cached_at : (b : ℕ) (y : Bool) → (a == b) ≡ y → All (Counted (after_send st a t) count) (desk_listing (with_desk v a d) b).cache
  cached_at b true q = subst (λ n. All (Counted (after_send st a t) count) (desk_listing (with_desk v a d) n).cache) (eqb-true a b q)
      (subst (λ (p : DeskListing). All (Counted (after_send st a t) count) p.cache) (sym (desk_here v a d al)) left_labels)
  cached_at b false q = subst (λ (p : DeskListing). All (Counted (after_send st a t) count) p.cache) (sym (desk_other v a b d q))
      (λ k e l. same_label _ (h.cached b k e l))

  inbox_here : inbox_listing (after_sending v a t bs d) t ≡ inbox_listing v t ++ new_batch v a t bs ∷ []
  inbox_here = get_or-set_same v.inboxes t (inbox_listing v t ++ new_batch v a t bs ∷ []) [] tl

  inbox_other : (b : ℕ) → (t == b) ≡ false → inbox_listing (after_sending v a t bs d) b ≡ inbox_listing v b
  inbox_other b e = get_or-set_other v.inboxes t b (inbox_listing v t ++ new_batch v a t bs ∷ []) [] (λ q. eqb-false t b e (sym q))

  queued_at : (b : ℕ) (y : Bool) → (t == b) ≡ y → All (λ (w : BatchListing). All (Counted (after_send st a t) count) w.buffers)
      (inbox_listing (after_sending v a t bs d) b)
  queued_at b true q = subst (λ n. All (λ (w : BatchListing). All (Counted (after_send st a t) count) w.buffers)
      (inbox_listing (after_sending v a t bs d) n)) (eqb-true t b q)
      (subst (λ (ws : List BatchListing). All (λ (w : BatchListing). All (Counted (after_send st a t) count) w.buffers) ws) (sym inbox_here)
      (All-push (λ (w : BatchListing). All (Counted (after_send st a t) count) w.buffers) (inbox_listing v t) (new_batch v a t bs)
      (λ j w l. λ k e m. same_label _ (h.queued t j w l k e m)) new_labels))
  queued_at b false q = subst (λ (ws : List BatchListing). All (λ (w : BatchListing). All (Counted (after_send st a t) count) w.buffers) ws)
      (sym (inbox_other b q))
      (λ j w l. λ k e m. same_label _ (h.queued b j w l k e m))

  sent : Waiting
  sent = record { number = st.next; sender = a; address = t; linked = false }

  waiting_here : (b : ℕ) (y : Bool) → (t == b) ≡ y → map as_waiting (inbox_listing (after_sending v a t bs d) b) ≡ inbox (after_send st a t) b
  unfolding sent
  waiting_here b true q = subst (λ n. map as_waiting (inbox_listing (after_sending v a t bs d) n) ≡ inbox (after_send st a t) n) (eqb-true t b q)
      (ap (map as_waiting) inbox_here ∙ (map-append as_waiting (inbox_listing v t) (new_batch v a t bs ∷ [])
      ∙ (ap₂ ◌++◌ (h.frame.inboxes t) (ap (λ n. record { number = n; sender = a; address = t; linked = false } ∷ []) h.frame.next
      ∙ ap (λ (x : Bool). cond x (sent ∷ []) []) (sym (eq-eqb t t refl)))
      ∙ sym (filter-append (λ (w : Waiting). t == w.address) st.waiting (sent ∷ [])))))
  waiting_here b false q = ap (map as_waiting) (inbox_other b q) ∙ (h.frame.inboxes b
      ∙ (sym (append-nil (inbox st b)) ∙ (ap (λ (x : Bool). inbox st b ++ cond x (sent ∷ []) []) (sym (turned q))
      ∙ sym (filter-append (λ (w : Waiting). b == w.address) st.waiting (sent ∷ [])))))
    where
      turned : (t == b) ≡ false → (b == t) ≡ false
      turned q = ne_eqb b t (λ r. eqb-false t b q (sym r))

  -- an accepted send
  pub send_shown : refusal st (Send a t) ≡ None → Located (after_sending v a t bs d) (after_send st a t) count
  send_shown n = record {
    sound = send_step st count a t h.sound n;
    frame = record {
      digits = h.frame.digits;
      limit = h.frame.limit;
      next = ap suc h.frame.next;
      desks = length-set v.desks a d ∙ h.frame.desks;
      inbox_count = length-set v.inboxes t (inbox_listing v t ++ new_batch v a t bs ∷ []) ∙ h.frame.inbox_count;
      chunks = h.frame.chunks;
      drawn = h.frame.drawn;
      holder = λ b. desk_keeps (λ p. p.worker) v a d al f.worker b ∙ h.frame.holder b;
      inboxes = λ b. waiting_here b (t == b) refl;
    };
    in_place = sent_in_place st (slots_in v) (slots_in (after_sending v a t bs d)) a t h.in_place moves;
    homes = λ b. subst (λ xs. All (Labelled (after_send st a t)) xs) (sym (desk_keeps (λ p. p.home) v a d al f.home b)) (λ k e l. h.homes b k e l);
    lent = λ k e l. h.lent k e l;
    cached = λ b. cached_at b (a == b) refl;
    queued = λ b. queued_at b (t == b) refl;
  }
