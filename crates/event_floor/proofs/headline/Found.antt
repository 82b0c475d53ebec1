-- Each slot that was handed out is that of a buffer of the floor.
use Rattle.std.proofs.Common.{◌≡◌, ℕ, ◌+◌, ◌<◌, ◌≤◌, Bool, true, false, cond, List, [], ◌∷◌, ◌++◌, map, flat_map, length, All, Option, Some, None, is_some, refl, sym, ap, ap₂, ◌∙◌, subst, arith}
use Rattle.std.specs.Prelude.{count_by, option_map}
use Rattle.std.specs.Borrow.{GName}
use Rattle.std.specs.List.{slice_get}
use Rattle.std.proofs.lemmas.Bool.{true≢false, lt-ltb}
use Rattle.std.proofs.lemmas.Option.{slice_get_within}
use Rattle.std.proofs.lemmas.List.{map-append}
use Rattle.std.proofs.lemmas.List.Elements.{All-nil, All-cons, All-head, All-tail, All-append, All-map}
use Rattle.region_cut.specs.declared.slot.Slot.{Slot}
use Rattle.region_cut.specs.Carved.{Carved}
use Rattle.region_cut.specs.Classes.{slots_of}
use Rattle.slot_chain.specs.Buffer.{Buffer}
use Rattle.pool_desk.specs.Homes.{AtHome, slot_at, kept_in}
use Rattle.pool_desk.specs.Homes.AtHome.{Kept, Fresh}
use Rattle.pool_machine.specs.declared.chunk.DrawnChunk.{DrawnChunk}
use Rattle.event_floor.specs.Desks.AnyDeskState.{Idle, Held}
use Rattle.event_floor.specs.Lent.{buffers_lent}
use Rattle.event_floor.specs.Inboxes.{QueuedState, inbox_at, buffers_in}
use Rattle.event_floor.specs.Desks.{AnyDeskState, home_of, cached_of}
use Rattle.event_floor.specs.Floors.{FloorState, desk_at, desk_count, no_desk}
use Rattle.region_cut.specs.Slots.{same_slot, times}
use Rattle.pool_machine.specs.Slots.{has_index, one_if}
use Rattle.pool_machine.specs.State.{State}
use Rattle.pool_machine.specs.Listing.{DeskListing, BatchListing, slots_seen}
use Rattle.pool_machine.proofs.Located.{Located}
use Rattle.pool_machine.specs.Headline.{joined}
use Rattle.event_floor.specs.headline.EndsKnown.{buffers_with, buffers_of}
use Rattle.event_floor.specs.headline.Listing.{entry_of, desk_of, batch_of, listing_of}
use Rattle.event_floor.specs.headline.Names.{HasName, IsNamedHome}
use Rattle.pool_machine.proofs.Basics.{same_slot_eq}
use Rattle.pool_machine.proofs.Enumerate.{count_cons, count_map}
use Rattle.pool_machine.proofs.Joined.{located_once}
use Rattle.event_floor.proofs.headline.Apart.{home_slots}
use Rattle.event_floor.proofs.headline.ByPlace.{NamesByPlace, lent_each}
use Rattle.event_floor.proofs.headline.Lists.{get_or_same, All-first, All-second}
use Rattle.event_floor.proofs.headline.Taken.{some_is, All-to}

-- ---- lists

pub All-flat : {X Y : Type 0} (P : Y → Type 0) (f : X → List Y) (xs : List X) → All (λ x. All P (f x)) xs → All P (flat_map f xs)
All-flat P f [] h = All-nil P
All-flat P f (x ∷ xs) h = All-append P (f x) (flat_map f xs) (All-head (λ y. All P (f y)) x xs h) (All-flat P f xs (All-tail (λ y. All P (f y)) x xs h))

pub All-parts : {X Y : Type 0} (P : Y → Type 0) (f : X → List Y) (xs : List X) → All P (flat_map f xs) → All (λ x. All P (f x)) xs
All-parts P f [] h = All-nil (λ y. All P (f y))
All-parts P f (x ∷ xs) h = All-cons (λ y. All P (f y)) x xs (All-first P (f x) (flat_map f xs) h) (All-parts P f xs (All-second P (f x) (flat_map f xs) h))

-- one of those that are counted
pub found : {X : Type 0} (P : X → Type 0) (p : X → Bool) (xs : List X) → All P xs → 0 < count_by p xs → (x : X) × (p x ≡ true) × P x
found P p [] h l = absurd (omega (arith, l))
found {X} P p (x ∷ xs) h l = go (p x) refl (found P p xs (All-tail P x xs h))
  where
    go : (b : Bool) → p x ≡ b → (0 < count_by p xs → (y : X) × (p y ≡ true) × P y) → (y : X) × (p y ≡ true) × P y
    go true e r = (x, e, All-head P x xs h)
    go false e r =
        let c : count_by p (x ∷ xs) ≡ 0 + count_by p xs = count_cons p x xs ∙ ap (λ b. cond b 1 0 + count_by p xs) e in
        r (omega (arith, l, c))

-- ---- the places of a floor: the slots at home, and the buffers that are lent, in caches and in batches

abbrev pub places : FloorState → List AtHome
places v = flat_map home_of v.desks ++ (map Kept (buffers_lent v.lent) ++ (map Kept (flat_map cached_of v.desks) ++ map Kept (flat_map buffers_in v.inboxes)))

kept_slots : (bs : List Buffer) → slots_seen (map entry_of bs) ≡ map slot_at (map Kept bs)
kept_slots [] = refl
kept_slots (b ∷ bs) = ap (λ l. b.slot ∷ l) (kept_slots bs)

kept_append : (xs ys : List Buffer) → map slot_at (map Kept (xs ++ ys)) ≡ map slot_at (map Kept xs) ++ map slot_at (map Kept ys)
kept_append xs ys = ap (map slot_at) (map-append Kept xs ys) ∙ map-append slot_at (map Kept xs) (map Kept ys)

home_part : (ds : List AnyDeskState) → flat_map (λ (d : DeskListing). slots_seen d.home) (map desk_of ds) ≡ map slot_at (flat_map home_of ds)
home_part [] = refl
home_part (s ∷ ds) = ap₂ ◌++◌ (home_slots s) (home_part ds) ∙ sym (map-append slot_at (home_of s) (flat_map home_of ds))

cache_slots : (s : AnyDeskState) → slots_seen (desk_of s).cache ≡ map slot_at (map Kept (cached_of s))
cache_slots (Idle d) = refl
cache_slots (Held d) = kept_slots d.cached

cache_part : (ds : List AnyDeskState) → flat_map (λ (d : DeskListing). slots_seen d.cache) (map desk_of ds) ≡ map slot_at (map Kept (flat_map cached_of ds))
cache_part [] = refl
cache_part (s ∷ ds) = ap₂ ◌++◌ (cache_slots s) (cache_part ds) ∙ sym (kept_append (cached_of s) (flat_map cached_of ds))

box_slots : (ps : List QueuedState) → flat_map (λ (w : BatchListing). slots_seen w.buffers) (map batch_of ps) ≡ map slot_at (map Kept (buffers_in ps))
box_slots [] = refl
box_slots (p ∷ ps) = ap₂ ◌++◌ (kept_slots p.buffers) (box_slots ps) ∙ sym (kept_append p.buffers (buffers_in ps))

post_part : (is : List (List QueuedState))
    → flat_map (λ ws. flat_map (λ (w : BatchListing). slots_seen w.buffers) ws) (map (map batch_of) is) ≡ map slot_at (map Kept (flat_map buffers_in is))
post_part [] = refl
post_part (ps ∷ is) = ap₂ ◌++◌ (box_slots ps) (post_part is) ∙ sym (kept_append (buffers_in ps) (flat_map buffers_in is))

places_joined : (v : FloorState) → joined (listing_of v) ≡ map slot_at (places v)
places_joined v =
    let lent = map Kept (buffers_lent v.lent) in
    let caches = map Kept (flat_map cached_of v.desks) in
    let batches = map Kept (flat_map buffers_in v.inboxes) in
    ap₂ ◌++◌ (home_part v.desks) (ap₂ ◌++◌ (kept_slots (buffers_lent v.lent)) (ap₂ ◌++◌ (cache_part v.desks) (post_part v.inboxes)
    ∙ sym (map-append slot_at caches batches)) ∙ sym (map-append slot_at lent (caches ++ batches))) ∙ sym (map-append slot_at (flat_map home_of v.desks) (lent ++ (caches ++ batches)))

-- ---- what holds of each buffer

-- of a slot at home, where it is a buffer
abbrev pub KeptIs : (Buffer → Type 0) → AtHome → Type 0
KeptIs K (Kept b) = K b
KeptIs K (Fresh u) = Unit {0}

kept_each : (K : Buffer → Type 0) (hs : List AtHome) → All K (kept_in hs) → All (KeptIs K) hs
kept_each K [] h = All-nil (KeptIs K)
kept_each K (Kept b ∷ hs) h = All-cons (KeptIs K) (Kept b) hs (All-head K b (kept_in hs) h) (kept_each K hs (All-tail K b (kept_in hs) h))
kept_each K (Fresh u ∷ hs) h = All-cons (KeptIs K) (Fresh u) hs tt (kept_each K hs h)

pub kept_back : (P : AtHome → Type 0) (hs : List AtHome) → All P hs → All (λ b. P (Kept b)) (kept_in hs)
kept_back P [] h = All-nil (λ b. P (Kept b))
kept_back P (Kept b ∷ hs) h = All-cons (λ b. P (Kept b)) b (kept_in hs) (All-head P (Kept b) hs h) (kept_back P hs (All-tail P (Kept b) hs h))
kept_back P (Fresh u ∷ hs) h = kept_back P hs (All-tail P (Fresh u) hs h)

All-two : {X : Type 0} (P Q : X → Type 0) (xs : List X) → All P xs → All Q xs → All (λ x. P x × Q x) xs
All-two P Q xs p q = λ k d l. (p k d l, q k d l)

placed_each : (K : Buffer → Type 0) (v : FloorState) → All K (buffers_of v) → All (KeptIs K) (places v)
placed_each K v h =
    let lent = buffers_lent v.lent in
    let caches = flat_map cached_of v.desks in
    let batches = flat_map buffers_in v.inboxes in
    let desks = All-parts K buffers_with v.desks (All-first K (flat_map buffers_with v.desks) (lent ++ batches) h) in
    let out = All-second K (flat_map buffers_with v.desks) (lent ++ batches) h in
    let at_home : All (λ (s : AnyDeskState). All (KeptIs K) (home_of s)) v.desks =
    All-to (λ (s : AnyDeskState). All K (buffers_with s)) (λ (s : AnyDeskState). All (KeptIs K) (home_of s)) v.desks (λ s g. kept_each K (home_of s)
    (All-first K (kept_in (home_of s)) (cached_of s) g)) desks in
    let in_caches : All K caches =
    All-flat K cached_of v.desks (All-to (λ (s : AnyDeskState). All K (buffers_with s)) (λ (s : AnyDeskState). All K (cached_of s)) v.desks (λ s g. All-second K (kept_in (home_of s))
    (cached_of s) g) desks) in
    All-append (KeptIs K) (flat_map home_of v.desks) (map Kept lent ++ (map Kept caches ++ map Kept batches)) (All-flat (KeptIs K) home_of v.desks at_home)
    (All-append (KeptIs K) (map Kept lent) (map Kept caches ++ map Kept batches) (All-map (KeptIs K) Kept lent (All-first K lent batches out))
    (All-append (KeptIs K) (map Kept caches) (map Kept batches) (All-map (KeptIs K) Kept caches in_caches) (All-map (KeptIs K) Kept batches (All-second K lent batches out))))

pub at_each_desk : (P : AnyDeskState → Type 0) (v : FloorState) → ((a : ℕ) → a < desk_count v → P (desk_at v a)) → All P v.desks
at_each_desk P v f = λ k d l. subst P (get_or_same v.desks k no_desk d l) (f k l)

module _ (v : FloorState) (names : List Carved) (n : NamesByPlace names v) where
  cached_named : All (HasName names) (flat_map cached_of v.desks)
  cached_named = All-flat (HasName names) cached_of v.desks (at_each_desk (λ (s : AnyDeskState). All (HasName names) (cached_of s)) v (λ a l. (n.desks a l).cached))

  home_named : All (λ (s : AnyDeskState). All (IsNamedHome names) (home_of s)) v.desks
  home_named = at_each_desk (λ (s : AnyDeskState). All (IsNamedHome names) (home_of s)) v (λ a l. (n.desks a l).home)

  lent_named : All (HasName names) (buffers_lent v.lent)
  lent_named = lent_each (HasName names) v.lent n.lent

  queued_named : All (HasName names) (flat_map buffers_in v.inboxes)
  queued_named = All-flat (HasName names) buffers_in v.inboxes
      (λ k d l. subst (λ ps. All (HasName names) (buffers_in ps)) (get_or_same v.inboxes k [] d l) (All-flat (HasName names) (λ (p : QueuedState). p.buffers) (inbox_at v.inboxes k) (n.queued k)))

  places_named : All (IsNamedHome names) (places v)
  places_named =
      All-append (IsNamedHome names) (flat_map home_of v.desks) _ (All-flat (IsNamedHome names) home_of v.desks home_named)
      (All-append (IsNamedHome names) (map Kept (buffers_lent v.lent)) _ (All-map (IsNamedHome names) Kept (buffers_lent v.lent) lent_named)
      (All-append (IsNamedHome names) (map Kept (flat_map cached_of v.desks)) _ (All-map (IsNamedHome names) Kept (flat_map cached_of v.desks) cached_named)
      (All-map (IsNamedHome names) Kept (flat_map buffers_in v.inboxes) queued_named)))

  pub buffers_named : All (HasName names) (buffers_of v)
  buffers_named =
      All-append (HasName names) (flat_map buffers_with v.desks) _
      (All-flat (HasName names) buffers_with v.desks
      (at_each_desk (λ (s : AnyDeskState). All (HasName names) (buffers_with s)) v
      (λ a l. All-append (HasName names) (kept_in (home_of (desk_at v a))) _ (kept_back (IsNamedHome names) (home_of (desk_at v a)) (n.desks a l).home) (n.desks a l).cached)))
      (All-append (HasName names) (buffers_lent v.lent) _ lent_named queued_named)

  module _ (st : State) (count : Slot → ℕ) (h : Located (listing_of v) st count) where
    has_place : (o : Option DrawnChunk) (i class : ℕ) → option_map (λ (d : DrawnChunk). d.class) o ≡ Some class → i < slots_of class → has_index i o ≡ true
    has_place None i class e l = absurd (true≢false (sym (ap is_some e)))
    has_place (Some d) i class e l = lt-ltb i (slots_of d.class) (subst (λ c. i < slots_of c) (sym (some_is d.class class e)) l)

    slot_there : (k i : ℕ) (c : Carved) → slice_get names k ≡ Some c → i < length c.taken → times (record { chunk = k; index = i }) (map slot_at (places v)) ≡ 1
    slot_there k i c e l =
        let s : Slot = record { chunk = k; index = i } in
        let is = n.chunks k c e in
        let few = is.few in
        let low : i < slots_of c.class = omega (arith, l, few) in
        ap (times s) (sym (places_joined v))
        ∙ (located_once (listing_of v) st count h s ∙ ap one_if (ap (has_index i) (sym (h.frame.drawn k)) ∙ has_place (slice_get v.drawn k) i c.class is.class low))

    -- the buffer of a slot that was handed out
    pub taken_buffer : (K : Buffer → Type 0) → All K (buffers_of v) → (k i : ℕ) (c : Carved) (x : GName) → slice_get names k ≡ Some c → slice_get c.taken i ≡ Some x
        → (b : Buffer) × (b.bytes.ghost_name ≡ x) × (b.class ≡ c.class) × HasName names b × K b × (b.slot ≡ record { chunk = k; index = i })
    taken_buffer K all k i c x e at =
        let s : Slot = record { chunk = k; index = i } in
        let low = slice_get_within c.taken i x at in
        let once : count_by (λ y. same_slot s (slot_at y)) (places v) ≡ 1 = sym (count_map (same_slot s) slot_at (places v)) ∙ slot_there k i c e low in
        let f = found (λ y. IsNamedHome names y × KeptIs K y) (λ y. same_slot s (slot_at y)) (places v)
        (All-two (IsNamedHome names) (KeptIs K) (places v) places_named (placed_each K v all)) (omega (arith, once)) in
        go f.0 (same_slot_eq s (slot_at f.0) f.1) f.2.0 f.2.1
      where
        go : (y : AtHome) → (let s : Slot = record { chunk = k; index = i } in s ≡ slot_at y) → IsNamedHome names y → KeptIs K y
            → (b : Buffer) × (b.bytes.ghost_name ≡ x) × (b.class ≡ c.class) × HasName names b × K b × (b.slot ≡ record { chunk = k; index = i })
        go (Kept b) q p z =
            let same : p.chunk ≡ c = some_is p.chunk c (sym p.is_chunk ∙ (ap (λ (r : Slot). slice_get names r.chunk) (sym q) ∙ e)) in
            let name : b.bytes.ghost_name ≡ x =
            some_is b.bytes.ghost_name x (sym p.name ∙ (ap (λ (d : Carved). slice_get d.taken b.slot.index) same ∙ (ap (λ (r : Slot). slice_get c.taken r.index) (sym q) ∙ at))) in
            (b, name, sym p.class ∙ ap (λ (d : Carved). d.class) same, p, z, sym q)
        go (Fresh u) q p z =
            let same : p.chunk ≡ c = some_is p.chunk c (sym p.is_chunk ∙ (ap (λ (r : Slot). slice_get names r.chunk) (sym q) ∙ e)) in
            let place : length c.taken ≤ i = subst (λ (r : Slot). length c.taken ≤ r.index) (sym q) (subst (λ (d : Carved). length d.taken ≤ u.slot.index) same p.place) in
            let low = slice_get_within c.taken i x at in
            absurd (omega (arith, place, low))
