-- Buffers that are lent, and freed.
use Rattle.std.proofs.Common.{◌≡◌, ℕ, ◌+◌, ◌<◌, Bool, true, List, [], ◌∷◌, map, length, get_or, set, sum_by, All, Option, Some, None, Ok, refl, sym, ap, ap₂, ◌∙◌, subst, arith, IsPermutation}
use Rattle.std.specs.List.{fold}
use Rattle.std.proofs.lemmas.Bool.{true≢false}
use Rattle.std.proofs.lemmas.List.{get_or-map, length-map}
use Rattle.std.proofs.lemmas.List.Elements.{All-head}
use Rattle.std.proofs.lemmas.List.Sorted.{IsPermutation-map, IsPermutation-sym, All-permutation, Contains-permutation}
use Rattle.region_cut.specs.declared.slot.Slot.{Slot}
use Rattle.region_cut.specs.Classes.{size_of, IsLeastFor}
use Rattle.slot_chain.specs.Buffer.{Buffer}
use Rattle.slot_chain.specs.Counts.{sizes, buffer_size}
use Rattle.digit_route.specs.Digits.{Scheme}
use Rattle.digit_route.specs.Profiles.{profile_of}
use Rattle.pool_desk.specs.Homes.{AtHome, slot_at, class_at}
use Rattle.pool_desk.specs.Homes.{GivenAs}
use Rattle.pool_desk.specs.Homes.AtHome.{Kept, Fresh}
use Rattle.pool_desk.specs.HomesState.{HasClass}
use Rattle.pool_desk.specs.Desks.{DeskState}
use Rattle.pool_desk.specs.Steps.{Frees, Caches}
use Rattle.pool_desk.specs.declared.freed.Freed.{Freed}
use Rattle.pool_desk.specs.declared.freed.Freed.TheVariants.{Home as FreedHome, Cached as FreedCached, Due as FreedDue}
use Rattle.event_floor.specs.Desks.AnyDeskState.{Held as HeldDesk}
use Rattle.pool_machine.specs.declared.request.Request.TheVariants.{Alloc, Free}
use Rattle.pool_machine.specs.declared.reply.Reply.TheVariants.{Slot as Lent}
use Rattle.event_floor.specs.DeskAnswers.{reply_of}
use Rattle.event_floor.specs.Desks.{HasPlace, home_of}
use Rattle.event_floor.specs.Lent.{buffers_lent, index_of}
use Rattle.event_floor.specs.Floors.{FloorState, IsHeld}
use Rattle.event_floor.specs.Steps.{LendsSlot, TakesBack}
use Rattle.pool_machine.specs.State.{State}
use Rattle.pool_machine.specs.Listing.{Entry, DeskListing, Listing, desk_listing}
use Rattle.pool_machine.proofs.Located.{ListName, Loans, HomeOf, list_of, same_list, Located, LocatedStep}
use Rattle.event_floor.specs.headline.Listing.{entry_of, entry_at, desk_of, listing_of}
use Rattle.event_floor.specs.headline.Whole.{IsWhole}
use Rattle.pool_machine.proofs.Places.{home_place, lent_place}
use Rattle.pool_machine.proofs.FreeStep.{FreeEdits, after_edits}
use Rattle.pool_machine.proofs.AllocStep.{AllocEdits, alloc_applies}
use Rattle.pool_machine.proofs.Applied.{FreeReplies, free_applies}
use Rattle.event_floor.proofs.headline.Least.{least_is}
use Rattle.event_floor.proofs.headline.Tables.{lent_place as lent_at_place, present_put, present_gone, present_at, at_its_place, same_place}
use Rattle.event_floor.proofs.headline.Views.{held_seen, with_any_desk_seen, slot_seen}
use Rattle.event_floor.proofs.headline.Refused.{alloc_accepted, free_accepted}
use Rattle.event_floor.proofs.headline.Holders.{numbered_held}

-- ---- Alloc

-- the entry of a slot at home is that of the buffer that it gives
gives_seen : (a : ℕ) (s : AtHome) (b : Buffer) → GivenAs s b → b.owner ≡ a → entry_at a s ≡ entry_of b
gives_seen a (Kept c) b g o = ap entry_of (sym g)
gives_seen a (Fresh u) b g o = rw (g.0, g.1, g.2, o) refl

-- what is at home isn't lent
apart : (v : FloorState) (st : State) (count : Slot → ℕ) (a : ℕ) (d : DeskState) (s : AtHome) (home : List AtHome) (b c : Buffer)
    → Located (listing_of v) st count → IsHeld v a d → IsPermutation d.home (s ∷ home) → slot_at s ≡ b.slot
    → get_or v.lent (index_of b.slot) None ≡ Some c → c.slot ≡ b.slot → ⊥
apart v st count a d s home b c h l p e m same =
    let lent : list_of st c.slot ≡ Some Loans =
    present_at (λ x. list_of st x.slot ≡ Some Loans) v.lent (index_of b.slot) c (λ k x n. subst (λ (z : Entry). list_of st z.slot ≡ Some Loans)
    (get_or-map entry_of (buffers_lent v.lent) k x (entry_of x) n) (lent_place (listing_of v) st count h k (entry_of x) (rw (length-map (buffers_lent v.lent) entry_of) n))) m in
    let homes : All (λ (z : Entry). list_of st z.slot ≡ Some (HomeOf a)) (map (entry_at d.number) d.home) =
    subst (λ (z : DeskListing). All (λ (z : Entry). list_of st z.slot ≡ Some (HomeOf a)) z.home) (held_seen v a d l) (home_place (listing_of v) st count h a) in
    let first : list_of st (entry_at d.number s).slot ≡ Some (HomeOf a) =
    All-head (λ (z : Entry). list_of st z.slot ≡ Some (HomeOf a)) (entry_at d.number s) (map (entry_at d.number) home)
    (All-permutation (λ (z : Entry). list_of st z.slot ≡ Some (HomeOf a)) _ _ (IsPermutation-map (entry_at d.number) d.home (s ∷ home) p) homes) in
    let here : list_of st b.slot ≡ Some (HomeOf a) = ap (list_of st) (sym e ∙ sym (slot_seen d.number s)) ∙ first in
    two_lists (sym lent ∙ (ap (list_of st) same ∙ here))
  where
    two_lists : Some Loans ≡ Some (HomeOf a) → ⊥
    two_lists q = true≢false (ap (λ (o : Option ListName). elim o as (λ _. Bool) [ None ↦ true | Some n ↦ same_list Loans n ]) q)

gives_slot : (s : AtHome) (b : Buffer) → GivenAs s b → slot_at s ≡ b.slot
gives_slot (Kept c) b g = ap (λ (x : Buffer). x.slot) (sym g)
gives_slot (Fresh u) b g = sym g.0

gives_class : (s : AtHome) (b : Buffer) → GivenAs s b → class_at s ≡ b.class
gives_class (Kept c) b g = ap (λ (x : Buffer). x.class) (sym g)
gives_class (Fresh u) b g = sym g.1

-- what one slot at home is, some slot is
has_slot : (s : AtHome) (home rest : List AtHome) (c : ℕ) → IsPermutation home (s ∷ rest) → class_at s ≡ c → HasClass c home
has_slot s home rest c p e =
    let h = Contains-permutation (s ∷ rest) home s (IsPermutation-sym _ _ p) (0, omega arith, refl) in (h.0, s, h.1, h.2, e)

module _ (v w : FloorState) (a n : ℕ) (slot : Slot) (f : IsWhole v) (s : LendsSlot v a n slot w) where
  abbrev lent_listing : Listing
  lent_listing = listing_of v

  abbrev lender : DeskListing
  lender = desk_of (HeldDesk s.after)

  abbrev lent_place_of : ℕ
  lent_place_of = index_of s.buffer.slot

  lender_number : (s.before.number ≡ a) × (s.before.limit ≡ v.limit) × (s.before.digits ≡ v.digits)
  lender_number = numbered_held v a s.before f s.held

  -- the slot has a place in the table
  pub placed_slot : (s.buffer.slot.chunk < v.chunks) × (s.buffer.slot.index < 256)
  placed_slot =
      let g = s.allocs.1 in
      let homes : All (HasPlace v.chunks) s.before.home = subst (λ z. All (HasPlace v.chunks) (home_of z)) s.held.1 (f.floor.each_desk a s.held.0).placed in
      let first = All-head (HasPlace v.chunks) g.from s.after.home (All-permutation (HasPlace v.chunks) s.before.home (g.from ∷ s.after.home) g.others homes) in
      subst (λ (z : Slot). (z.chunk < v.chunks) × (z.index < 256)) (gives_slot g.from s.buffer g.gives) first

  pub in_table : lent_place_of < length v.lent
  in_table = let p = placed_slot in let t = f.floor.table in omega (arith, p.0, p.1, t)

  was_empty : (st : State) (count : Slot → ℕ) → Located (listing_of v) st count → get_or v.lent lent_place_of None ≡ None
  was_empty st count h = go (get_or v.lent lent_place_of None) refl
    where
      go : (o : Option Buffer) → get_or v.lent lent_place_of None ≡ o → o ≡ None
      go None e = refl
      go (Some c) e =
          let p = at_its_place v.lent lent_place_of c f.in_place e in
          let g = s.allocs.1 in
          absurd (apart v st count a s.before g.from s.after.home s.buffer c h s.held g.others (gives_slot g.from s.buffer g.gives) e
          (same_place c.slot s.buffer.slot p.0 p.1 placed_slot.1))

  lending : get_or v.lent lent_place_of None ≡ None → AllocEdits (listing_of v) a n (entry_of s.buffer) (map entry_of (buffers_lent (set v.lent lent_place_of (Some s.buffer)))) lender
  lending empty =
      let g = s.allocs.1 in
      let keeps = s.allocs.2 in
      let seen = held_seen v a s.before s.held in
      let p : IsPermutation (map (entry_at s.before.number) s.before.home) (entry_of s.buffer ∷ map (entry_at s.before.number) s.after.home) =
      subst (λ z. IsPermutation (map (entry_at s.before.number) s.before.home) (z ∷ map (entry_at s.before.number) s.after.home))
      (gives_seen s.before.number g.from s.buffer g.gives g.owner_is) (IsPermutation-map (entry_at s.before.number) _ _ g.others) in
      record {
        leaves = subst (λ m. IsPermutation (entry_of s.buffer ∷ map (entry_at m) s.after.home) (desk_listing (listing_of v) a).home) (ap (λ (x : DeskState). x.number) (sym keeps))
            (subst (λ (z : DeskListing). IsPermutation (entry_of s.buffer ∷ map (entry_at s.before.number) s.after.home) z.home) (sym seen) (IsPermutation-sym _ _ p));
        class = sym (least_is (profile_of v.digits.bits) n s.buffer.class (subst (λ (z : Scheme). IsLeastFor (profile_of z.bits) n s.buffer.class) lender_number.2 s.allocs.0));
        worker = ap (λ (x : DeskState). Some x.worker) keeps ∙ ap (λ (z : DeskListing). z.worker) (sym seen);
        cache = ap (λ (x : DeskState). map entry_of x.cached) keeps ∙ ap (λ (z : DeskListing). z.cache) (sym seen);
        arrives = IsPermutation-map entry_of _ _ (present_put v.lent lent_place_of s.buffer in_table empty);
      }

  lent_shown : listing_of w ≡ after_edits (listing_of v) a (map entry_of (buffers_lent (set v.lent lent_place_of (Some s.buffer)))) lender
  lent_shown =
      ap listing_of s.same
      ∙ ap₂ (λ xs ys. record (listing_of v) { desks = xs; lent = ys }) (with_any_desk_seen v a (HeldDesk s.after))
      (ap (λ z. map entry_of (buffers_lent (set v.lent (index_of z) (Some s.buffer)))) (sym s.is_slot))

  pub alloc_done : LocatedStep (listing_of v) (Alloc a n) (Ok (Lent slot)) (listing_of w)
  alloc_done =
      subst (λ z. LocatedStep (listing_of v) (Alloc a n) (Ok (Lent z)) (listing_of w)) s.is_slot
      (subst (λ z. LocatedStep (listing_of v) (Alloc a n) (Ok (Lent s.buffer.slot)) z) (sym lent_shown)
      (λ st count h. alloc_applies (listing_of v) a n (entry_of s.buffer) (map entry_of (buffers_lent (set v.lent lent_place_of (Some s.buffer)))) lender
      (alloc_accepted v a n s.buffer.class s.before lender_number.2 s.held s.allocs.0
      (has_slot s.allocs.1.from s.before.home s.after.home s.buffer.class s.allocs.1.others (gives_class s.allocs.1.from s.buffer s.allocs.1.gives)))
      (lending (was_empty st count h)) st count h))

-- ---- Free

bytes_from : (n : ℕ) (bs : List Buffer) → fold (λ m (e : Entry). m + size_of e.class) n (map entry_of bs) ≡ fold (λ m (b : Buffer). m + buffer_size b) n bs
bytes_from n [] = refl
bytes_from n (b ∷ bs) = bytes_from (n + size_of b.class) bs

bytes_of : (bs : List Buffer) → sum_by (λ (e : Entry). size_of e.class) (map entry_of bs) ≡ sizes bs
bytes_of bs = bytes_from 0 bs

module _ (v w : FloorState) (a : ℕ) (pair : ℕ × ℕ) (r : Freed) (f : IsWhole v) (s : TakesBack v a pair.0 pair.1 r w) where
  abbrev freer : DeskListing
  freer = desk_of (HeldDesk s.after)

  abbrev lent_after : List Entry
  lent_after = map entry_of (buffers_lent (set v.lent (index_of s.buffer.slot) None))

  freer_number : (s.before.number ≡ a) × (s.before.limit ≡ v.limit) × (s.before.digits ≡ v.digits)
  freer_number = numbered_held v a s.before f s.held

  pub was_there : get_or v.lent (index_of s.buffer.slot) None ≡ Some s.buffer
  was_there = ap (λ z. get_or v.lent (index_of z) None) s.is_slot ∙ (lent_at_place v.lent pair.0 pair.1 s.buffer s.was_lent).1

  left_table : IsPermutation (entry_of s.buffer ∷ lent_after) (listing_of v).lent
  left_table = IsPermutation-map entry_of _ _ (present_gone v.lent (index_of s.buffer.slot) s.buffer was_there)

  caching : Caches s.before s.buffer s.after → FreeEdits (listing_of v) a (entry_of s.buffer) lent_after freer
  caching h =
      let seen = held_seen v a s.before s.held in
      let keeps = h.1 in record {
        leaves = left_table;
        worker = ap (λ (x : DeskState). Some x.worker) keeps ∙ ap (λ (z : DeskListing). z.worker) (sym seen);
        own = λ o. absurd (h.0 (o ∙ sym freer_number.0));
        other = λ o. (
          ap (λ (x : DeskState). map (entry_at x.number) x.home) keeps ∙ ap (λ (z : DeskListing). z.home) (sym seen),
          subst (λ (z : DeskListing). IsPermutation (record (entry_of s.buffer) { forwards = 0 } ∷ z.cache) (map entry_of s.after.cached)) (sym seen) (IsPermutation-map entry_of _ _ h.2),
        );
      }

  freeing : (x : Freed) → Frees s.before s.buffer x s.after → FreeEdits (listing_of v) a (entry_of s.buffer) lent_after freer
  freeing FreedHome h =
      let seen = held_seen v a s.before s.held in
      let keeps = h.1 in record {
        leaves = left_table;
        worker = ap (λ (x : DeskState). Some x.worker) keeps ∙ ap (λ (z : DeskListing). z.worker) (sym seen);
        own = λ o. (
          subst (λ (z : DeskListing). IsPermutation (record (entry_of s.buffer) { forwards = 0 } ∷ z.home) (map (entry_at s.after.number) s.after.home)) (sym seen)
              (subst (λ m. IsPermutation (record (entry_of s.buffer) { forwards = 0 } ∷ map (entry_at s.before.number) s.before.home) (map (entry_at m) s.after.home)) (ap (λ (x : DeskState). x.number) (sym keeps))
              (IsPermutation-map (entry_at s.before.number) _ _ h.2)),
          ap (λ (x : DeskState). map entry_of x.cached) keeps ∙ ap (λ (z : DeskListing). z.cache) (sym seen),
        );
        other = λ o. absurd (o (h.0 ∙ freer_number.0));
      }
  freeing FreedCached h = caching h.0
  freeing FreedDue h = caching h.0

  replies : (x : Freed) → Frees s.before s.buffer x s.after → FreeReplies (listing_of v) a (entry_of s.buffer) freer (reply_of x)
  replies FreedHome h = h.0 ∙ freer_number.0
  replies FreedCached h = ((λ o. h.0.0 (o ∙ sym freer_number.0)), rw (bytes_of s.after.cached, ← freer_number.1) h.1)
  replies FreedDue h = ((λ o. h.0.0 (o ∙ sym freer_number.0)), rw (bytes_of s.after.cached, ← freer_number.1) h.1)

  free_shown : listing_of w ≡ after_edits (listing_of v) a lent_after freer
  free_shown = ap listing_of s.same ∙ ap (λ xs. record (listing_of v) { desks = xs; lent = lent_after }) (with_any_desk_seen v a (HeldDesk s.after))

  pub free_done : LocatedStep (listing_of v) (Free a pair) (Ok (reply_of r)) (listing_of w)
  free_done =
      subst (λ z. LocatedStep (listing_of v) (Free a pair) (Ok (reply_of r)) z) (sym free_shown)
      (free_applies (listing_of v) a pair (entry_of s.buffer) lent_after freer (reply_of r) (free_accepted v a pair s.before s.buffer s.held s.was_lent s.is_slot)
      s.is_slot (freeing r s.frees) (replies r s.frees))
