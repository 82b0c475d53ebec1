-- A link, over the floor's lists.
use Rattle.std.proofs.Common.{◌≡◌, ℕ, zero, suc, ◌<◌, Bool, true, false, ◌==◌, cond, List, [], ◌∷◌, ◌++◌, map, filter, length, set, get_or, flat_map, All, None, Ok, if◌then◌else◌, refl, sym, ap, ap₂, ◌∙◌, subst, arith, inl, inr, length-set, get_or-set_same, get_or-set_other}
use Rattle.std.proofs.lemmas.Bool.{eqb-true, eqb-false, eq-eqb, ne_eqb}
use Rattle.std.proofs.lemmas.List.Elements.{All-set}
use Rattle.region_cut.specs.declared.slot.Slot.{Slot}
use Rattle.pool_machine.specs.declared.request.Request.TheVariants.{Link}
use Rattle.pool_machine.specs.declared.reply.Reply.TheVariants.{Done}
use Rattle.region_cut.specs.Slots.{times}
use Rattle.pool_machine.specs.State.{State, Waiting, inbox}
use Rattle.pool_machine.specs.Sound.{Member, Rising}
use Rattle.pool_machine.specs.Listing.{Listing, BatchListing, Counted}
use Rattle.pool_machine.proofs.Located.{inbox_listing, ListName, HomeOf, Loans, CacheOf, BatchOf, slots_in, if_numbered, Located, LocatedStep}
use Rattle.pool_machine.proofs.Basics.{filter_member, link_keeps}
use Rattle.pool_machine.proofs.Batches.{same_number, row_member, waits_there, row_rises}
use Rattle.pool_machine.proofs.Keeps.{link_sound}
use Rattle.pool_machine.proofs.Refusals.{refusal_seen, refusal_agrees}
use Rattle.pool_machine.proofs.Words.{as_waiting, link_one}

-- ---- links

link_same : (n : ℕ) (w : Waiting) → (n == w.number) ≡ false → link_one n w ≡ w
link_same n w e = ap (λ (b : Bool). if b then record w { linked = true } else w) e

links_none : (n : ℕ) (xs : List Waiting) → ((u : Waiting) → Member u xs → (n == u.number) ≡ false) → map (link_one n) xs ≡ xs
links_none n [] f = refl
links_none n (x ∷ xs) f = ap₂ ◌∷◌ (link_same n x (f x (inl refl))) (links_none n xs (λ u m. f u (inr m)))

abbrev pub linked : BatchListing → BatchListing
linked w = record w { batch = record w.batch { linked = true } }

link_row : (ws : List BatchListing) (j n : ℕ) (d : BatchListing) → Rising (map as_waiting ws) → j < length ws → (get_or ws j d).batch.number ≡ n →
    map as_waiting (set ws j (linked (get_or ws j d))) ≡ map (link_one n) (map as_waiting ws)
link_row [] j n d r l e = absurd (omega arith)
link_row (w ∷ ws) zero n d r l e = ap₂ ◌∷◌
    (sym (ap (λ (b : Bool). if b then record (as_waiting w) { linked = true } else as_waiting w) (eq-eqb n w.batch.number (sym e))))
    (sym (links_none n (map as_waiting ws) (λ u m. ne_eqb n u.number (λ q. absurd (let k : w.batch.number < u.number = r.0 u m in omega arith)))))
link_row (w ∷ ws) (suc j) n d r l e = ap₂ ◌∷◌
    (sym (link_same n (as_waiting w) (ne_eqb n w.batch.number (λ q. absurd (let k : w.batch.number < (get_or ws j d).batch.number =
    r.0 _ (row_member ws j d (omega arith)) in omega arith)))))
    (link_row ws j n d r.1 (omega arith) e)

filter_links : (n b : ℕ) (xs : List Waiting) → filter (λ w. b == w.address) (map (link_one n) xs) ≡ map (link_one n) (filter (λ w. b == w.address) xs)
filter_links n b [] = refl
filter_links n b (x ∷ xs) =
    ap₂ (λ y ws. cond (b == y) (link_one n x ∷ ws) ws) (link_keeps n x).2 (filter_links n b xs) ∙ go (b == x.address)
  where
    go : (y : Bool) → cond y (link_one n x ∷ map (link_one n) (filter (λ w. b == w.address) xs)) (map (link_one n) (filter (λ w. b == w.address) xs))
        ≡ map (link_one n) (cond y (x ∷ filter (λ w. b == w.address) xs) (filter (λ w. b == w.address) xs))
    go true = refl
    go false = refl

flat_set : {A B : Type 0} (f : A → List B) (xs : List A) (j : ℕ) (x d : A) → f x ≡ f (get_or xs j d) → flat_map f (set xs j x) ≡ flat_map f xs
flat_set f [] j x d e = refl
flat_set f (y ∷ ys) zero x d e = ap (λ zs. zs ++ flat_map f ys) e
flat_set f (y ∷ ys) (suc j) x d e = ap (λ zs. f y ++ zs) (flat_set f ys j x d e)

-- the batch at place j of the inbox of b is linked
abbrev pub after_link : Listing → ℕ → ℕ → BatchListing → Listing
after_link v b j w = record v { inboxes = set v.inboxes b (set (inbox_listing v b) j (linked w)) }

module _ (v : Listing) (st : State) (count : Slot → ℕ) (n b j : ℕ) (d : BatchListing)
    (h : Located v st count) (l : b < length v.inboxes) (m : j < length (inbox_listing v b)) (e : (get_or (inbox_listing v b) j d).batch.number ≡ n) where
  w : BatchListing
  w = get_or (inbox_listing v b) j d

  abbrev row : List BatchListing
  row = set (inbox_listing v b) j (linked (get_or (inbox_listing v b) j d))

  abbrev after : Listing
  after = after_link v b j (get_or (inbox_listing v b) j d)

  here : inbox_listing after b ≡ row
  here = get_or-set_same v.inboxes b row [] l

  other : (c : ℕ) → (b == c) ≡ false → inbox_listing after c ≡ inbox_listing v c
  other c q = get_or-set_other v.inboxes b c row [] (λ r. eqb-false b c q (sym r))

  waiting_at : (c : ℕ) (y : Bool) → (b == c) ≡ y → map as_waiting (inbox_listing after c) ≡ filter (λ w. c == w.address) (map (link_one n) st.waiting)
  waiting_at c true q = subst (λ z. map as_waiting (inbox_listing after z) ≡ filter (λ w. z == w.address) (map (link_one n) st.waiting))
      (eqb-true b c q)
      (ap (map as_waiting) here ∙ (link_row (inbox_listing v b) j n d (row_rises v st h.frame h.sound.rising b) m e
      ∙ (ap (map (link_one n)) (h.frame.inboxes b) ∙ sym (filter_links n b st.waiting))))
  waiting_at c false q = ap (map as_waiting) (other c q) ∙ (h.frame.inboxes c
      ∙ (sym (links_none n (inbox st c) (λ u k. ne_eqb n u.number (λ r. eqb-false b c q (apart u k r)))) ∙ sym (filter_links n c st.waiting)))
    where
      apart : (u : Waiting) → Member u (inbox st c) → n ≡ u.number → b ≡ c
      apart u k r =
          let x = waits_there v st h.frame h.sound.rising b j d m in
          let y = filter_member (λ w. c == w.address) u st.waiting k in
          let z = same_number st.waiting _ u h.sound.rising x.0 y.0 (e ∙ r) in
          eqb-true b _ x.1 ∙ (ap (λ (w : Waiting). w.address) z ∙ sym (eqb-true c u.address y.1))

  lists_at : (k : ListName) → slots_in after k ≡ slots_in v k
  lists_at (HomeOf c) = refl
  lists_at Loans = refl
  lists_at (CacheOf c) = refl
  lists_at (BatchOf i) = flat_set (λ ws. flat_map (if_numbered i) ws) v.inboxes b row []
      (flat_set (if_numbered i) (inbox_listing v b) j (linked (get_or (inbox_listing v b) j d)) d refl)

  queued_at : (c : ℕ) (y : Bool) → (b == c) ≡ y → All (λ (w : BatchListing). All (Counted st count) w.buffers) (inbox_listing after c)
  queued_at c true q = subst (λ z. All (λ (w : BatchListing). All (Counted st count) w.buffers) (inbox_listing after z)) (eqb-true b c q)
      (subst (λ ws. All (λ (w : BatchListing). All (Counted st count) w.buffers) ws) (sym here)
      (All-set (λ (w : BatchListing). All (Counted st count) w.buffers) (inbox_listing v b) j (linked (get_or (inbox_listing v b) j d))
      (h.queued b j d m) (h.queued b)))
  queued_at c false q = subst (λ ws. All (λ (w : BatchListing). All (Counted st count) w.buffers) ws) (sym (other c q)) (h.queued c)

  pub link_shown : Located (after_link v b j (get_or (inbox_listing v b) j d)) (record st { waiting = map (link_one n) st.waiting }) count
  link_shown = record {
    sound = link_sound st count n h.sound;
    frame = record {
      digits = h.frame.digits;
      limit = h.frame.limit;
      next = h.frame.next;
      desks = h.frame.desks;
      inbox_count = length-set v.inboxes b row ∙ h.frame.inbox_count;
      chunks = h.frame.chunks;
      drawn = h.frame.drawn;
      holder = h.frame.holder;
      inboxes = λ c. waiting_at c (b == c) refl;
    };
    in_place = λ k s. ap (times s) (lists_at k) ∙ h.in_place k s;
    homes = h.homes;
    lent = h.lent;
    cached = h.cached;
    queued = λ c. queued_at c (b == c) refl;
  }

-- an accepted link
pub link_applies : (v : Listing) (n b j : ℕ) (d : BatchListing) → refusal_seen v (Link n) ≡ None → b < length v.inboxes →
    j < length (inbox_listing v b) →
    (get_or (inbox_listing v b) j d).batch.number ≡ n → LocatedStep v (Link n) (Ok Done) (after_link v b j (get_or (inbox_listing v b) j d))
link_applies v n b j d z l m e st count h = (
  record st { waiting = map (link_one n) st.waiting },
  (
    (
      refusal_agrees v st count h (Link n)
          ∙ z,
      tt,
    ),
    refl,
  ),
  link_shown v st count n b j d h l m e,
)
