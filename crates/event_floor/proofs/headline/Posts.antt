-- Batches that are sent, linked and taken.
use Rattle.std.proofs.Common.{◌≡◌, ℕ, ◌+◌, ◌<◌, ◌≤◌, Bool, true, false, not, ◌==◌, List, [], ◌∷◌, ◌++◌, map, filter, length, get_or, set, All, Some, Ok, refl, sym, ap, ap₂, ◌∙◌, subst, arith, append-nil, IsPermutation, le_trans}
use Rattle.std.proofs.lemmas.List.{length-map, map-append, map_push}
use Rattle.std.proofs.lemmas.List.Sorted.{IsPermutation-map}
use Rattle.region_cut.specs.declared.slot.Slot.{Slot}
use Rattle.slot_chain.specs.Buffer.{Buffer}
use Rattle.slot_chain.specs.Counts.{capped}
use Rattle.digit_route.specs.Route.{TakesBucket}
use Rattle.pool_desk.specs.Homes.{comes_home}
use Rattle.pool_desk.specs.Desks.{DeskState}
use Rattle.pool_desk.specs.Steps.{passed_on as buffer_passed_on, own, others}
use Rattle.event_floor.specs.Desks.AnyDeskState.{Held as HeldDesk}
use Rattle.pool_machine.specs.declared.request.Request.TheVariants.{Send, Link, Take}
use Rattle.pool_machine.specs.declared.reply.Reply.{Reply}
use Rattle.pool_machine.specs.declared.reply.Reply.TheVariants.{Done, Batch, Counts}
use Rattle.event_floor.specs.Inboxes.{QueuedState, inbox_at, sent_as, as_linked, no_batch, IsUnlinked, SomeQueued}
use Rattle.event_floor.specs.Floors.{FloorState}
use Rattle.event_floor.specs.Steps.{SendsBatch, LinksBatch, TakesFront}
use Rattle.pool_machine.specs.State.{State, bucket, in_bucket, slots, owner_of, InBatch, same_place, slots_at}
use Rattle.pool_machine.specs.Steps.{Step, front_of}
use Rattle.pool_machine.proofs.Words.{coming_home, going_on}
use Rattle.pool_machine.specs.Forwards.{counted as forward_count}
use Rattle.pool_machine.specs.Listing.{Entry, DeskListing, BatchListing, Listing}
use Rattle.pool_machine.proofs.Located.{inbox_listing, Located, LocatedStep}
use Rattle.event_floor.specs.headline.Listing.{entry_of, entry_at, desk_of, batch_of, listing_of}
use Rattle.event_floor.specs.headline.Whole.{IsWhole}
use Rattle.pool_machine.proofs.Refusals.{goes_by}
use Rattle.pool_machine.proofs.SendStep.{new_batch, after_sending}
use Rattle.pool_machine.proofs.LinkStep.{linked, after_link, link_applies}
use Rattle.pool_machine.proofs.TakeFloor.{TakeEdits, passed_on, after_taking, take_applies}
use Rattle.pool_machine.proofs.Applied.{SendMoves, send_applies}
use Rattle.event_floor.proofs.headline.Lists.{get_or-map_default, set-map, filter-map, filter-permutation, filter-append, filter_kept, filter_gone, get_or_same}
use Rattle.event_floor.proofs.headline.Bounds.{all_few, filter_few, capped_is}
use Rattle.event_floor.proofs.headline.Views.{held_seen, with_any_desk_seen, inbox_seen}
use Rattle.event_floor.proofs.headline.Refused.{send_accepted, link_accepted, take_accepted, goes_seen, stays_seen}
use Rattle.event_floor.proofs.headline.Holders.{numbered_held}

-- the listing's inboxes, with another one
inboxes_seen : (v : FloorState) (b : ℕ) (ps : List QueuedState) → map (map batch_of) (set v.inboxes b ps) ≡ set (listing_of v).inboxes b (map batch_of ps)
inboxes_seen v b ps = set-map (map batch_of) v.inboxes b ps

-- a state of the floor has few chunks
few_slots : (v : FloorState) (st : State) → (count : Slot → ℕ) → IsWhole v → Located (listing_of v) st count → length (slots st) ≤ 4194304
few_slots v st count f h = all_few st (subst (λ n. n ≤ 1024) h.frame.chunks f.few_chunks)

-- ---- Send

module _ (v w : FloorState) (a t number count : ℕ) (f : IsWhole v) (s : SendsBatch v a t number count w) where
  abbrev sender : DeskListing
  sender = desk_of (HeldDesk s.after)

  abbrev sent : List Entry
  sent = map entry_of s.batch.items

  abbrev goes : Buffer → Bool
  goes b = goes_by v.digits a t b.owner

  taken : TakesBucket v.digits a t s.before.cached s.batch.items s.after.cached
  taken = subst (λ n. TakesBucket v.digits a n s.before.cached s.batch.items s.after.cached) s.address s.gives.taken

  all_go : All (λ b. goes b ≡ true) s.batch.items
  all_go = λ k d l. goes_seen v.digits a t (get_or s.batch.items k d) (taken.only k d l)

  none_goes : All (λ b. goes b ≡ false) s.after.cached
  none_goes = λ k d l. stays_seen v.digits a t (get_or s.after.cached k d) (taken.all k d l)

  going : IsPermutation (filter goes s.before.cached) s.batch.items
  going = subst (λ xs. IsPermutation (filter goes s.before.cached) xs)
      (filter-append goes s.batch.items s.after.cached
      ∙ (ap₂ ◌++◌ (filter_kept goes s.batch.items all_go) (filter_gone goes s.after.cached none_goes) ∙ append-nil s.batch.items))
      (filter-permutation goes s.before.cached (s.batch.items ++ s.after.cached) taken.together)

  staying : IsPermutation (filter (λ b. not (goes b)) s.before.cached) s.after.cached
  staying = subst (λ xs. IsPermutation (filter (λ b. not (goes b)) s.before.cached) xs)
      (filter-append (λ b. not (goes b)) s.batch.items s.after.cached
      ∙ ap₂ ◌++◌ (filter_gone (λ b. not (goes b)) s.batch.items (λ k d l. ap not (all_go k d l))) (filter_kept (λ b. not (goes b)) s.after.cached (λ k d l. ap not (none_goes k d l))))
      (filter-permutation (λ b. not (goes b)) s.before.cached (s.batch.items ++ s.after.cached) taken.together)

  sending : SendMoves (listing_of v) a t sent sender
  sending =
      let seen = held_seen v a s.before s.routes.0 in record {
        worker = ap (λ (x : DeskState). Some x.worker) s.same_desk ∙ ap (λ (z : DeskListing). z.worker) (sym seen);
        home = ap (λ (x : DeskState). map (entry_at x.number) x.home) s.same_desk ∙ ap (λ (z : DeskListing). z.home) (sym seen);
        taken = subst (λ (z : DeskListing). IsPermutation (filter (λ (e : Entry). goes_by v.digits a t e.owner) z.cache) sent) (sym seen)
            (subst (λ xs. IsPermutation xs sent) (sym (filter-map entry_of (λ (e : Entry). goes_by v.digits a t e.owner) s.before.cached)) (IsPermutation-map entry_of _ _ going));
        left = subst (λ (z : DeskListing). IsPermutation (filter (λ (e : Entry). not (goes_by v.digits a t e.owner)) z.cache) (map entry_of s.after.cached)) (sym seen)
            (subst (λ xs. IsPermutation xs (map entry_of s.after.cached)) (sym (filter-map entry_of (λ (e : Entry). not (goes_by v.digits a t e.owner)) s.before.cached))
            (IsPermutation-map entry_of _ _ staying));
      }

  batch_seen : batch_of (sent_as number s.batch) ≡ new_batch (listing_of v) a t sent
  batch_seen = rw (s.is_next, s.gives.sender, s.address) refl

  sent_shown : listing_of w ≡ after_sending (listing_of v) a t sent sender
  sent_shown =
      ap listing_of s.same
      ∙ (ap₂ (λ xs ys. record (listing_of v) { desks = xs; inboxes = ys; next = v.next + 1 }) (with_any_desk_seen v a (HeldDesk s.after))
      (inboxes_seen v t (inbox_at v.inboxes t ++ sent_as number s.batch ∷ [])
      ∙ ap (set (listing_of v).inboxes t)
      (map_push batch_of (inbox_at v.inboxes t) (sent_as number s.batch) ∙ ap₂ (λ xs y. xs ++ y ∷ []) (sym (inbox_seen v t)) batch_seen))
      ∙ ap (λ n. record (after_sending (listing_of v) a t sent sender) { next = n }) (omega arith))

  -- what the machine counts, where that is few
  counted_as : (m n : ℕ) → m ≡ capped (length s.batch.items) → length sent ≡ n → n ≤ 4194304 → length sent ≡ m
  counted_as m n e g l =
      let q = length-map s.batch.items entry_of in
      let k = capped_is (length s.batch.items) (omega (arith, g, l, q)) in
      q ∙ (sym k ∙ sym e)

  pub send_done : LocatedStep (listing_of v) (Send a t) (Ok (Batch number count)) (listing_of w)
  send_done st passes h =
      let batches : length (listing_of v).inboxes ≡ length (listing_of v).desks =
      length-map v.inboxes (map batch_of) ∙ (f.floor.inbox_count ∙ (sym f.floor.count ∙ sym (length-map v.desks desk_of))) in
      let g = send_applies (listing_of v) a t sent sender batches (send_accepted v a t s.before s.routes s.unspent) sending st passes h in
      let few = le_trans (filter_few (in_bucket st a t) (slots st)) (few_slots v st passes f h) in
      let same : length sent ≡ count = counted_as count (length (bucket st a t)) s.counted g.1.0.1.1 few in
      subst (λ n. StepShown (Batch n count) st passes) (sym s.is_next)
      (subst (λ n. StepShown (Batch v.next n) st passes) same
      (subst (λ z. (next : State) × Step st (Send a t) (Ok (Batch v.next (length sent))) next × Located z next (λ x. forward_count st (Send a t) (Ok (Batch v.next (length sent))) x (passes x)))
      (sym sent_shown) g))
    where
      StepShown : Reply → (st : State) → (Slot → ℕ) → Type 0
      StepShown y st passes = (next : State) × Step st (Send a t) (Ok y) next × Located (listing_of w) next (λ x. forward_count st (Send a t) (Ok y) x (passes x))

-- ---- Link

pub link_done : (v w : FloorState) (n : ℕ) → LinksBatch v n w → LocatedStep (listing_of v) (Link n) (Ok Done) (listing_of w)
link_done v w n s =
    let ps = inbox_at v.inboxes s.inbox in
    let p = get_or ps s.place no_batch in
    let some : SomeQueued (IsUnlinked n) v.inboxes = (s.inbox, s.unlinked.0, (s.place, p, s.unlinked.1, get_or_same ps s.place p no_batch s.unlinked.1, s.unlinked.2)) in
    let row : get_or (inbox_listing (listing_of v) s.inbox) s.place (batch_of no_batch) ≡ batch_of p =
    ap (λ ws. get_or ws s.place (batch_of no_batch)) (inbox_seen v s.inbox) ∙ get_or-map_default batch_of ps s.place no_batch in
    let shown : listing_of w ≡ after_link (listing_of v) s.inbox s.place (get_or (inbox_listing (listing_of v) s.inbox) s.place (batch_of no_batch)) =
    ap listing_of s.same
    ∙ ap (λ ys. record (listing_of v) { inboxes = ys })
    (inboxes_seen v s.inbox (set ps s.place (as_linked p))
    ∙ ap (set (listing_of v).inboxes s.inbox)
    (set-map batch_of ps s.place (as_linked p) ∙ ap₂ (λ ws x. set ws s.place (linked x)) (sym (inbox_seen v s.inbox)) (sym row))) in
    subst (λ z. LocatedStep (listing_of v) (Link n) (Ok Done) z) (sym shown)
    (link_applies (listing_of v) n s.inbox s.place (batch_of no_batch) (link_accepted v n some)
    (subst (λ m. s.inbox < m) (sym (length-map v.inboxes (map batch_of))) s.unlinked.0)
    (subst (λ ws. s.place < length ws) (sym (inbox_seen v s.inbox)) (subst (λ m. s.place < m) (sym (length-map ps batch_of)) s.unlinked.1))
    (ap (λ (x : BatchListing). x.batch.number) row ∙ s.unlinked.2.0))

-- ---- Take

kept_seen : (n : ℕ) (bs : List Buffer) → map (entry_at n) (map comes_home bs) ≡ map entry_of bs
kept_seen n [] = refl
kept_seen n (b ∷ bs) = ap (λ l. entry_of b ∷ l) (kept_seen n bs)

passed_seen : (bs : List Buffer) → map entry_of (map buffer_passed_on bs) ≡ map passed_on (map entry_of bs)
passed_seen [] = refl
passed_seen (b ∷ bs) = ap₂ (λ (n : ℕ) (l : List Entry). record (entry_of b) { forwards = n } ∷ l) (omega arith) (passed_seen bs)

module _ (v w : FloorState) (b home on : ℕ) (f : IsWhole v) (s : TakesFront v b home on w) where
  abbrev taker : DeskListing
  taker = desk_of (HeldDesk s.after)

  abbrev taken_batch : BatchListing
  taken_batch = batch_of s.front

  abbrev is_own : Entry → Bool
  is_own e = e.owner == b

  abbrev is_other : Entry → Bool
  is_other e = not (e.owner == b)

  taker_number : s.before.number ≡ b
  taker_number = (numbered_held v b s.before f s.held).0

  own_seen : map entry_of (own s.before.number s.front.buffers) ≡ filter is_own taken_batch.buffers
  own_seen = ap (λ n. map entry_of (own n s.front.buffers)) taker_number ∙ sym (filter-map entry_of is_own s.front.buffers)

  others_seen : map entry_of (others s.before.number s.front.buffers) ≡ filter is_other taken_batch.buffers
  others_seen = ap (λ n. map entry_of (others n s.front.buffers)) taker_number ∙ sym (filter-map entry_of is_other s.front.buffers)

  taking : TakeEdits (listing_of v) b taken_batch (map batch_of s.rest) taker
  taking =
      let seen = held_seen v b s.before s.held in
      let keeps = s.handles.same in
      let n = s.before.number in record {
        front = inbox_seen v b ∙ ap (map batch_of) s.is_front;
        worker = ap (λ (x : DeskState). Some x.worker) keeps ∙ ap (λ (z : DeskListing). z.worker) (sym seen);
        home = subst (λ (z : DeskListing). IsPermutation (filter is_own taken_batch.buffers ++ z.home) (map (entry_at s.after.number) s.after.home)) (sym seen)
            (subst (λ m. IsPermutation (filter is_own taken_batch.buffers ++ map (entry_at n) s.before.home) (map (entry_at m) s.after.home)) (ap (λ (x : DeskState). x.number) (sym keeps))
            (subst (λ xs. IsPermutation xs (map (entry_at n) s.after.home))
            (map-append (entry_at n) (map comes_home (own n s.front.buffers)) s.before.home
            ∙ ap (λ xs. xs ++ map (entry_at n) s.before.home) (kept_seen n (own n s.front.buffers) ∙ own_seen))
            (IsPermutation-map (entry_at n) _ _ s.handles.home)));
        cache = subst (λ (z : DeskListing). IsPermutation (map passed_on (filter is_other taken_batch.buffers) ++ z.cache) (map entry_of s.after.cached)) (sym seen)
            (subst (λ xs. IsPermutation xs (map entry_of s.after.cached))
            (map-append entry_of (map buffer_passed_on (others n s.front.buffers)) s.before.cached
            ∙ ap (λ xs. xs ++ map entry_of s.before.cached) (passed_seen (others n s.front.buffers) ∙ ap (map passed_on) others_seen))
            (IsPermutation-map entry_of _ _ s.handles.cached));
      }

  taken_shown : listing_of w ≡ after_taking (listing_of v) b (map batch_of s.rest) taker
  taken_shown =
      ap listing_of s.same
      ∙ ap₂ (λ xs ys. record (listing_of v) { desks = xs; inboxes = ys }) (with_any_desk_seen v b (HeldDesk s.after)) (inboxes_seen v b s.rest)

  counted_few : (xs : List Buffer) (ys : List Entry) (m n : ℕ) → map entry_of xs ≡ ys → m ≡ capped (length xs) → length ys ≡ n → n ≤ 4194304 → length ys ≡ m
  counted_few xs ys m n q e g l =
      let k = sym (ap length q) ∙ length-map xs entry_of in
      let c = capped_is (length xs) (omega (arith, g, l, k)) in
      k ∙ (sym c ∙ sym e)

  abbrev ShownAs : Reply → Listing → (st : State) → (Slot → ℕ) → Type 0
  ShownAs y z st passes = (next : State) × Step st (Take b) (Ok y) next × Located z next (λ x. forward_count st (Take b) (Ok y) x (passes x))

  pub take_done : LocatedStep (listing_of v) (Take b) (Ok (Counts home on)) (listing_of w)
  take_done st passes h =
      let g = take_applies (listing_of v) b taken_batch (map batch_of s.rest) taker (take_accepted v b s.before s.front s.rest s.held s.is_front s.linked) taking st passes h in
      let all = few_slots v st passes f h in
      let of_batch = le_trans (filter_few (λ x. same_place (InBatch (front_of st b)) (st.place x)) (slots st)) all in
      let m = counted_few (own s.before.number s.front.buffers) (filter is_own taken_batch.buffers) home (length (coming_home st b)) own_seen s.counted.home g.1.0.1.0
      (le_trans (filter_few (λ x. owner_of st x == b) (slots_at st (InBatch (front_of st b)))) of_batch) in
      let n = counted_few (others s.before.number s.front.buffers) (filter is_other taken_batch.buffers) on (length (going_on st b)) others_seen s.counted.on g.1.0.1.1
      (le_trans (filter_few (λ x. not (owner_of st x == b)) (slots_at st (InBatch (front_of st b)))) of_batch) in
      subst (λ z. ShownAs (Counts home on) z st passes) (sym taken_shown)
      (subst (λ i. ShownAs (Counts i on) (after_taking (listing_of v) b (map batch_of s.rest) taker) st passes) m
      (subst (λ i. ShownAs (Counts (length (filter is_own taken_batch.buffers)) i) (after_taking (listing_of v) b (map batch_of s.rest) taker) st passes) n g))
