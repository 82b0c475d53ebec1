-- No request changes a byte.
use Rattle.std.proofs.Common.{◌≡◌, ◌≢◌, ℕ, zero, suc, ◌+◌, ◌*◌, ◌<◌, ◌⊎◌, List, [], ◌∷◌, ◌++◌, map, flat_map, length, take, drop, get_or, All, Ok, Err, inl, inr, refl, sym, ap, ap₂, ◌∙◌, subst, arith, ⊎_elim, IsPermutation}
use Rattle.std.specs.Borrow.{GName}
use Rattle.std.specs.List.{slice_get}
use Rattle.std.proofs.Math.Nat.{suc-mul}
use Rattle.std.proofs.lemmas.List.{length_push}
use Rattle.std.proofs.lemmas.List.Elements.{All-nil, All-cons, All-head}
use Rattle.std.proofs.lemmas.List.Sorted.{All-permutation}
use Rattle.std.proofs.lemmas.Option.{slice_get_within}
use Rattle.region_cut.specs.Limits.{chunk_size}
use Rattle.region_cut.specs.declared.slot.Slot.{Slot}
use Rattle.region_cut.specs.Carved.{Carved}
use Rattle.region_cut.specs.Classes.{size_of, slots_of}
use Rattle.region_cut.specs.Laws.{StandsAt}
use Rattle.region_cut.specs.Parts.{bytes_of}
use Rattle.region_cut.specs.Ranges.{start_of}
use Rattle.region_cut.specs.declared.part.Part.{Part}
use Rattle.slot_chain.specs.Buffer.{Buffer}
use Rattle.slot_chain.specs.Filling.{emptied}
use Rattle.pool_desk.specs.Homes.{AtHome, Unused, TakesNext, taken_next, unused_from}
use Rattle.pool_desk.specs.Homes.{GivenAs}
use Rattle.pool_desk.specs.Homes.AtHome.{Kept, Fresh}
use Rattle.pool_machine.specs.declared.request.Request.{Request}
use Rattle.pool_machine.specs.declared.request.Request.TheVariants.{Adopt, Retire, Claim, Alloc, Free, Send, Link, Take}
use Rattle.pool_machine.specs.declared.reply.Reply.{Reply}
use Rattle.pool_machine.specs.declared.reply.Reply.TheVariants.{Done, Chunk, Slot as Lent, Home, Cached, Due, Batch, Counts}
use Rattle.pool_machine.specs.Steps.{Answer}
use Rattle.event_floor.specs.Floors.{FloorState, no_desk, opening}
use Rattle.event_floor.specs.Inboxes.{QueuedState}
use Rattle.event_floor.specs.Desks.{AnyDeskState, new_desks}
use Rattle.digit_route.specs.Digits.{Scheme}
use Rattle.event_floor.specs.Steps.{Answers}
use Rattle.event_floor.specs.Steps.{Does, DrawsChunk, LendsSlot}
use Rattle.event_floor.specs.headline.Bytes.{LieAt, RestLies, Holds, HoldsSome, IsKept, KeepsBytes, FreshBytesStay}
use Rattle.event_floor.specs.headline.EndsKnown.{buffers_of, fresh_of}
use Rattle.event_floor.specs.headline.Names.{HasName, HasNoName, IsNamedHome, IsNamed}
use Rattle.event_floor.proofs.headline.ByPlace.{NamesByPlace, by_place}
use Rattle.event_floor.proofs.headline.Everywhere.{Everywhere, OfDesk, IsHome, everywhere, buffers_everywhere, fresh_everywhere, chunks_everywhere, adopt_everywhere, retire_everywhere, link_everywhere, send_everywhere, free_everywhere, take_everywhere, claim_everywhere, alloc_everywhere}
use Rattle.event_floor.proofs.headline.Lists.{get_or_same}
use Rattle.event_floor.proofs.headline.Named.{held_named}
use Rattle.event_floor.proofs.headline.Stands.{stands_first, stands_second, stands_there, unused_stand}
use Rattle.event_floor.proofs.headline.Keeping.{IsBare, idle_bare, none_lent, none_queued}
use Rattle.event_floor.proofs.headline.Taken.{All-to, some_is}

-- ---- each request, of what holds everywhere

module _ (K : Buffer → Type 0) (U : Unused → Type 0) (R : Carved → Type 0)
    (changed : (b : Buffer) (n : ℕ) → K b → K (record b { forwards = n })) (as_emptied : (b : Buffer) → K b → K (emptied b))
    (give : (u : Unused) (b : Buffer) → GivenAs (Fresh u) b → U u → K b)
    (next : (names : List Carved) (v w : FloorState) (a n : ℕ) (slot : Slot) → NamesByPlace names v → (s : LendsSlot v a n slot w)
    (u : Unused) (t : TakesNext u s.buffer s.before.drawn s.after.drawn) → IsPermutation s.before.home (Fresh u ∷ s.after.home)
    → GivenAs (Fresh u) s.buffer → R t.from → R (taken_next t.from s.buffer.bytes.ghost_name t.rest)) where
  pub does_everywhere : (names : List Carved) (v w : FloorState) (q : Request) (r : Reply) → NamesByPlace names v → Everywhere K U R v
      → ((a class k : ℕ) (s : DrawsChunk v a class k w) → All (IsHome K U) (unused_from s.part.chunk class s.part.bytes.ghost_name (slots_of class) 0 s.part.bytes.now)
      × R s.claims.drawn.drawn)
      → Does v q r w → Everywhere K U R w
  does_everywhere names v w (Adopt a x) Done n e f h = adopt_everywhere K U R v e w a x h.0 h.1 h.2
  does_everywhere names v w (Adopt a x) _ n e f h = elim h [ ]
  does_everywhere names v w (Retire a) Done n e f h = retire_everywhere K U R v e w a h.0 h.1 h.4
  does_everywhere names v w (Retire a) _ n e f h = elim h [ ]
  does_everywhere names v w (Claim a c) (Chunk k) n e f h = let g = f a c k h in claim_everywhere K U R v e w a c k h g.0 g.1
  does_everywhere names v w (Claim a c) _ n e f h = elim h [ ]
  does_everywhere names v w (Alloc a m) (Lent slot) n e f h = alloc_everywhere K U R v e as_emptied give w a m slot h (next names v w a m slot n h)
  does_everywhere names v w (Alloc a m) _ n e f h = elim h [ ]
  does_everywhere names v w (Free a pair) Home n e f h = free_everywhere K U R v e changed as_emptied w a pair.0 pair.1 _ h
  does_everywhere names v w (Free a pair) Cached n e f h = free_everywhere K U R v e changed as_emptied w a pair.0 pair.1 _ h
  does_everywhere names v w (Free a pair) Due n e f h = free_everywhere K U R v e changed as_emptied w a pair.0 pair.1 _ h
  does_everywhere names v w (Free a pair) _ n e f h = elim h [ ]
  does_everywhere names v w (Send a t) (Batch number count) n e f h = send_everywhere K U R v e w a t number count h
  does_everywhere names v w (Send a t) _ n e f h = elim h [ ]
  does_everywhere names v w (Link number) Done n e f h = link_everywhere K U R v e w number h
  does_everywhere names v w (Link number) _ n e f h = elim h [ ]
  does_everywhere names v w (Take b) (Counts home on) n e f h = take_everywhere K U R v e changed as_emptied w b home on h
  does_everywhere names v w (Take b) _ n e f h = elim h [ ]

-- ---- which chunks are drawn

abbrev SameChunks : FloorState → FloorState → Type 0
SameChunks v w = (w.drawn ≡ v.drawn) × (w.undrawn ≡ v.undrawn)

abbrev DrawsSome : FloorState → FloorState → Type 0
DrawsSome v w = (a : ℕ) × (class : ℕ) × (k : ℕ) × DrawsChunk v a class k w

stays_drawn : (v w u : FloorState) → w ≡ u → u.drawn ≡ v.drawn → u.undrawn ≡ v.undrawn → SameChunks v w ⊎ DrawsSome v w
stays_drawn v w u e d l = inl (ap (λ (f : FloorState). f.drawn) e ∙ d, ap (λ (f : FloorState). f.undrawn) e ∙ l)

same_chunks : (v w : FloorState) (q : Request) (r : Reply) → Does v q r w → SameChunks v w ⊎ DrawsSome v w
same_chunks v w (Adopt a x) Done h = stays_drawn v w _ h.2 refl refl
same_chunks v w (Adopt a x) _ h = elim h [ ]
same_chunks v w (Retire a) Done h = stays_drawn v w _ h.4 refl refl
same_chunks v w (Retire a) _ h = elim h [ ]
same_chunks v w (Claim a c) (Chunk k) h = inr (a, c, k, h)
same_chunks v w (Claim a c) _ h = elim h [ ]
same_chunks v w (Alloc a m) (Lent slot) h = stays_drawn v w _ h.same refl refl
same_chunks v w (Alloc a m) _ h = elim h [ ]
same_chunks v w (Free a pair) Home h = stays_drawn v w _ h.same refl refl
same_chunks v w (Free a pair) Cached h = stays_drawn v w _ h.same refl refl
same_chunks v w (Free a pair) Due h = stays_drawn v w _ h.same refl refl
same_chunks v w (Free a pair) _ h = elim h [ ]
same_chunks v w (Send a t) (Batch number count) h = stays_drawn v w _ h.same refl refl
same_chunks v w (Send a t) _ h = elim h [ ]
same_chunks v w (Link number) Done h = stays_drawn v w _ h.same refl refl
same_chunks v w (Link number) _ h = elim h [ ]
same_chunks v w (Take b) (Counts home on) h = stays_drawn v w _ h.same refl refl
same_chunks v w (Take b) _ h = elim h [ ]

-- ---- the bytes of a region

module _ (region : List ℕ) where
  abbrev BufferLies : Buffer → Type 0
  BufferLies b = LieAt region b.slot b.class b.bytes.now

  abbrev FreshLies : Unused → Type 0
  FreshLies u = LieAt region u.slot u.class u.bytes

  given_lies : (u : Unused) (b : Buffer) → GivenAs (Fresh u) b → FreshLies u → BufferLies b
  given_lies u b g h =
      subst (λ bs. LieAt region b.slot b.class bs) (sym g.4)
      (subst (λ c. LieAt region b.slot c u.bytes) (sym g.1) (subst (λ s. LieAt region s u.class u.bytes) (sym g.0) h))

  next_lies : (names : List Carved) (v w : FloorState) (a n : ℕ) (slot : Slot) → NamesByPlace names v → (s : LendsSlot v a n slot w)
      (u : Unused) (t : TakesNext u s.buffer s.before.drawn s.after.drawn) → IsPermutation s.before.home (Fresh u ∷ s.after.home)
      → GivenAs (Fresh u) s.buffer → RestLies region t.from → RestLies region (taken_next t.from s.buffer.bytes.ghost_name t.rest)
  next_lies names v w a n slot f s u t p g h =
      let z = size_of t.from.class in
      let at = chunk_size * t.from.chunk + length t.from.taken * z in
      let fresh : HasNoName names u = All-head (IsNamedHome names) (Fresh u) s.after.home (All-permutation (IsNamedHome names) _ _ p (held_named names v f a s.before s.held).home) in
      let size : length s.buffer.bytes.now ≡ z = ap length g.4 ∙ (fresh.size ∙ ap size_of (sym t.class_is)) in
      let more : length (t.from.taken ++ s.buffer.bytes.ghost_name ∷ []) ≡ length t.from.taken + 1 = length_push t.from.taken s.buffer.bytes.ghost_name in
      let place : at + length s.buffer.bytes.now ≡ chunk_size * t.from.chunk + (length t.from.taken + 1) * z = (let m = suc-mul (length t.from.taken) z in omega (arith, size, m)) in
      subst (λ k. StandsAt t.rest (chunk_size * t.from.chunk + k * z) region) (sym more)
      (subst (λ k. StandsAt t.rest k region) place
      (stands_second s.buffer.bytes.now t.rest at region (subst (λ bs. StandsAt bs at region) t.left h)))

  -- a drawn chunk stands where it stood undrawn
  module _ (v w : FloorState) (a class k : ℕ) (s : DrawsChunk v a class k w) (h : StandsAt (flat_map (λ (bs : List ℕ). bs) v.undrawn) (chunk_size * length v.drawn) region) where
    both : StandsAt (bytes_of s.part ++ flat_map (λ (bs : List ℕ). bs) w.undrawn) (chunk_size * length v.drawn) region
    both = subst (λ us. StandsAt (flat_map (λ (bs : List ℕ). bs) us) (chunk_size * length v.drawn) region) s.first h

    part_lies : StandsAt (bytes_of s.part) (chunk_size * s.part.chunk) region
    part_lies = subst (λ n. StandsAt (bytes_of s.part) (chunk_size * n) region) (sym (s.is_part ∙ s.is_next)) (stands_first (bytes_of s.part) _ _ region both)

    claimed_lies : All (IsHome BufferLies FreshLies) (unused_from s.part.chunk class s.part.bytes.ghost_name (slots_of class) 0 s.part.bytes.now)
    claimed_lies =
        let p : chunk_size * s.part.chunk ≡ chunk_size * s.part.chunk + 0 * size_of class = omega arith in
        unused_stand (IsHome BufferLies FreshLies) s.part.chunk class region (λ i part bs g. g) s.part.bytes.ghost_name (slots_of class) 0 (bytes_of s.part)
        (subst (λ n. StandsAt (bytes_of s.part) n region) p part_lies)

    uncut_lies : RestLies region s.claims.drawn.drawn
    uncut_lies =
        let c = s.claims.drawn.drawn in
        let u = s.claims.drawn.uncut in
        let none : length c.taken ≡ 0 = ap length u.none_taken in
        let p : chunk_size * s.part.chunk ≡ chunk_size * s.part.chunk + 0 * size_of c.class = omega arith in
        let q : chunk_size * s.part.chunk ≡ chunk_size * c.chunk + length c.taken * size_of c.class =
        p ∙ (ap (λ n. chunk_size * s.part.chunk + n * size_of c.class) (sym none) ∙ ap (λ n. chunk_size * n + length c.taken * size_of c.class) (sym u.chunk)) in
        subst (λ bs. StandsAt bs (chunk_size * c.chunk + length c.taken * size_of c.class) region) (sym u.all_left) (subst (λ n. StandsAt (bytes_of s.part) n region) q part_lies)

    left_lies : StandsAt (flat_map (λ (bs : List ℕ). bs) w.undrawn) (chunk_size * length w.drawn) region
    left_lies =
        let whole = s.part.is_whole in
        let more : length w.drawn ≡ length v.drawn + 1 = ap (λ (x : FloorState). length x.drawn) s.same ∙ length_push v.drawn _ in
        let p : chunk_size * length v.drawn + length (bytes_of s.part) ≡ chunk_size * (length v.drawn + 1) = omega (arith, whole) in
        subst (λ n. StandsAt (flat_map (λ (bs : List ℕ). bs) w.undrawn) (chunk_size * n) region) (sym more)
        (subst (λ n. StandsAt (flat_map (λ (bs : List ℕ). bs) w.undrawn) n region) p (stands_second (bytes_of s.part) _ _ region both))

  -- the parts that aren't drawn stay, but for the one of a claim
  undrawn_lies : (v w : FloorState) (q : Request) (r : Reply) → StandsAt (flat_map (λ (bs : List ℕ). bs) v.undrawn) (chunk_size * length v.drawn) region → Does v q r w
      → StandsAt (flat_map (λ (bs : List ℕ). bs) w.undrawn) (chunk_size * length w.drawn) region
  undrawn_lies v w q r l h = ⊎_elim
      (λ (same : SameChunks v w).
      subst (λ us. StandsAt (flat_map (λ (bs : List ℕ). bs) us) (chunk_size * length w.drawn) region) (sym same.1)
      (subst (λ ds. StandsAt (flat_map (λ (bs : List ℕ). bs) v.undrawn) (chunk_size * length ds) region) (sym same.0) l))
      (λ (draws : DrawsSome v w). left_lies v w draws.0 draws.1 draws.2 draws.3 l) (same_chunks v w q r h)

  does_hold : (names : List Carved) (v w : FloorState) (q : Request) (r : Reply) → NamesByPlace names v → Holds v region → Does v q r w → Holds w region
  does_hold names v w q r n h d =
      let e = does_everywhere BufferLies FreshLies (RestLies region) (λ b m p. p) (λ b p. p) given_lies next_lies names v w q r n
      (everywhere BufferLies FreshLies (RestLies region) v h.buffers h.fresh h.rests)
      (λ a class k s. (claimed_lies v w a class k s h.undrawn, uncut_lies v w a class k s h.undrawn)) d in
      record {
        buffers = buffers_everywhere BufferLies FreshLies (RestLies region) w e;
        fresh = fresh_everywhere BufferLies FreshLies (RestLies region) w e;
        rests = chunks_everywhere BufferLies FreshLies (RestLies region) w e;
        undrawn = undrawn_lies v w q r h.undrawn d;
      }

-- ---- the buffers of before

abbrev HasNone : List Buffer → Unused → Type 0
HasNone olds u = All (λ (c : Buffer). c.slot ≢ u.slot) olds

abbrev AnyChunk : Carved → Type 0
AnyChunk c = Unit {0}

-- the floor's buffers since it was `old`
pub record KeptSince (old v : FloorState) : Type 0 where
  pub kept : Everywhere (IsKept (buffers_of old)) (HasNone (buffers_of old)) AnyChunk v
  pub below : All (λ (c : Buffer). c.slot.chunk < length v.drawn) (buffers_of old)

-- what holds of any slots of a chunk
module _ (P : AtHome → Type 0) (chunk class : ℕ) (part : GName)
    (is : (i : ℕ) (bs : List ℕ) → P (Fresh (record { slot = record { chunk = chunk; index = i }; class = class; part = part; bytes = bs }))) where
  any_unused : (n i : ℕ) (bs : List ℕ) → All P (unused_from chunk class part n i bs)
  any_unused zero i bs = All-nil P
  any_unused (suc n) i bs = All-cons P _ _ (is i (take (size_of class) bs)) (any_unused n (i + 1) (drop (size_of class) bs))

module _ (olds : List Buffer) where
  given_kept : (u : Unused) (b : Buffer) → GivenAs (Fresh u) b → HasNone olds u → IsKept olds b
  given_kept u b g h = inr (λ k d l e. h k d l (e ∙ g.0))

  -- no old buffer is of a chunk that was just drawn
  claimed_new : (chunk class : ℕ) (part : GName) (bs : List ℕ) → All (λ (c : Buffer). c.slot.chunk < chunk) olds
      → All (IsHome (IsKept olds) (HasNone olds)) (unused_from chunk class part (slots_of class) 0 bs)
  claimed_new chunk class part bs below =
      any_unused (IsHome (IsKept olds) (HasNone olds)) chunk class part
      (λ j cs. λ k d l e. (let m = below k d l in let q : (get_or olds k d).slot.chunk ≡ chunk = ap (λ (s : Slot). s.chunk) e in absurd (omega (arith, m, q)))) (slots_of class) 0 bs

  kept_self : All (IsKept olds) olds
  kept_self = λ k d l. inl (k, get_or olds k d, l, get_or_same olds k (get_or olds k d) d l, (refl, refl, refl, refl))

-- a slot with a name is none that was never handed out
names_apart : (names : List Carved) (c : Buffer) (u : Unused) → HasName names c → HasNoName names u → c.slot ≢ u.slot
names_apart names c u h g e =
    let same : h.chunk ≡ g.chunk = some_is h.chunk g.chunk (sym h.is_chunk ∙ (ap (λ (s : Slot). slice_get names s.chunk) e ∙ g.is_chunk)) in
    let low : c.slot.index < length g.chunk.taken = subst (λ (d : Carved). c.slot.index < length d.taken) same (slice_get_within h.chunk.taken c.slot.index _ h.name) in
    let high = g.place in
    let index : c.slot.index ≡ u.slot.index = ap (λ (s : Slot). s.index) e in
    absurd (omega (arith, low, high, index))

home_of_names : (names : List Carved) (x : AtHome) → IsNamedHome names x → IsHome (HasName names) (HasNoName names) x
home_of_names names (Kept b) h = h
home_of_names names (Fresh u) h = h

names_everywhere : (names : List Carved) (v : FloorState) → NamesByPlace names v → Everywhere (HasName names) (HasNoName names) AnyChunk v
names_everywhere names v n = record {
  desks = λ a l. record {
    home = All-to (IsNamedHome names) (IsHome (HasName names) (HasNoName names)) _ (home_of_names names) (n.desks a l).home;
    cached = (n.desks a l).cached;
    chunks = λ k d m. tt;
  };
  lent = n.lent;
  queued = n.queued;
}

pub fresh_named : (names : List Carved) (v : FloorState) → NamesByPlace names v → All (HasNoName names) (fresh_of v)
fresh_named names v n = fresh_everywhere (HasName names) (HasNoName names) AnyChunk v (names_everywhere names v n)

names_start : (names : List Carved) (v : FloorState) → NamesByPlace names v → KeptSince v v
names_start names v n =
    let e = names_everywhere names v n in
    let named = buffers_everywhere (HasName names) (HasNoName names) AnyChunk v e in
    let none = fresh_named names v n in record {
      kept = everywhere (IsKept (buffers_of v)) (HasNone (buffers_of v)) AnyChunk v (kept_self (buffers_of v))
          (All-to (HasNoName names) (HasNone (buffers_of v)) (fresh_of v) (λ u g. λ k d l. names_apart names (get_or (buffers_of v) k d) u (named k d l) g) none)
          (λ k d l. tt);
      below = All-to (HasName names) (λ (c : Buffer). c.slot.chunk < length v.drawn) (buffers_of v)
          (λ c h. subst (λ m. c.slot.chunk < m) n.count (slice_get_within names c.slot.chunk h.chunk h.is_chunk)) named;
    }

does_keep : (names : List Carved) (old v w : FloorState) (q : Request) (r : Reply) → NamesByPlace names v → KeptSince old v → Does v q r w → KeptSince old w
does_keep names old v w q r n h d =
    let olds = buffers_of old in record {
      kept = does_everywhere (IsKept olds) (HasNone olds) AnyChunk (λ b m p. p) (λ b p. p) (given_kept olds) (λ names v w a n slot f s u t p g m. m) names v w q r n h.kept
          (λ a class k s. (
            claimed_new olds s.part.chunk class s.part.bytes.ghost_name s.part.bytes.now
                (subst (λ m. All (λ (c : Buffer). c.slot.chunk < m) olds) (sym (s.is_part ∙ s.is_next)) h.below),
            tt,
          )) d;
      below = ⊎_elim
          (λ (same : SameChunks v w). subst (λ ds. All (λ (c : Buffer). c.slot.chunk < length ds) olds) (sym same.0) h.below)
          (λ (draws : DrawsSome v w).
          let more : length w.drawn ≡ length v.drawn + 1 = ap (λ (x : FloorState). length x.drawn) draws.3.same ∙ length_push v.drawn _ in
          All-to (λ (c : Buffer). c.slot.chunk < length v.drawn) (λ (c : Buffer). c.slot.chunk < length w.drawn) olds (λ c l. omega (arith, l, more)) h.below)
          (same_chunks v w q r d);
    }

-- ---- answers

pub start_kept : (v : FloorState) → IsNamed v → KeptSince v v
unfolding IsNamed
start_kept v n = names_start n.0 v (by_place n.0 v n.1)

pub stays_kept : (old v w : FloorState) (q : Request) (y : Answer) → IsNamed v → KeptSince old v → Answers v q y w → KeptSince old w
unfolding IsNamed
stays_kept old v w q (Ok r) n h d = does_keep n.0 old v w q r (by_place n.0 v n.1) h d
stays_kept old v w q (Err r) n h d = subst (KeptSince old) (sym d.1) h

pub stays_held : (v w : FloorState) (q : Request) (y : Answer) (region : List ℕ) → IsNamed v → Answers v q y w → Holds v region → Holds w region
unfolding IsNamed
stays_held v w q (Ok r) region n d h = does_hold region n.0 v w q r (by_place n.0 v n.1) h d
stays_held v w q (Err r) region n d h = subst (λ f. Holds f region) (sym d.1) h

pub stays_held_some : (v w : FloorState) (q : Request) (y : Answer) → IsNamed v → Answers v q y w → HoldsSome v → HoldsSome w
unfolding HoldsSome
stays_held_some v w q y n d h = (h.0, stays_held v w q y h.0 n d h.1)

pub keeps_bytes : (old w : FloorState) → KeptSince old w → HoldsSome old → ((region : List ℕ) → Holds old region → Holds w region) → KeepsBytes old w
keeps_bytes old w h s f = record {
  buffers = buffers_everywhere (IsKept (buffers_of old)) (HasNone (buffers_of old)) AnyChunk w h.kept;
  held = s;
  region = f;
}

pub step_keeps_bytes : (v w : FloorState) (q : Request) (y : Answer) → IsNamed v → HoldsSome v → Answers v q y w → KeepsBytes v w
step_keeps_bytes v w q y n s d = keeps_bytes v w (stays_kept v v w q y n (start_kept v n) d) s (λ region h. stays_held v w q y region n d h)

same_range : (region xs ys : List ℕ) (s t : Slot) (c d : ℕ) → LieAt region s c xs → LieAt region t d ys → s ≡ t → c ≡ d → length xs ≡ length ys → xs ≡ ys
same_range region xs ys s t c d h g e f n =
    sym h ∙ (ap (λ k. take k (drop (start_of s c) region)) n ∙ (ap₂ (λ x k. take (length ys) (drop (start_of x k) region)) e f ∙ g))

pub fresh_stay : FreshBytesStay
unfolding HoldsSome
fresh_stay old new h = λ i d l. λ j x m. λ e f n.
    same_range h.held.0 _ _ _ _ _ _ ((h.region h.held.0 h.held.1).buffers j x m) (h.held.1.fresh i d l) e f n

-- ---- a new floor

module _ (K : Buffer → Type 0) (U : Unused → Type 0) (R : Carved → Type 0) where
  bare_desk : (s : AnyDeskState) → IsBare s → OfDesk K U R s
  bare_desk s h = record {
    home = subst (λ hs. All (IsHome K U) hs) (sym h.0) (All-nil (IsHome K U));
    cached = subst (λ bs. All K bs) (sym h.1) (All-nil K);
    chunks = subst (λ cs. All R cs) (sym h.2) (All-nil R);
  }

  opening_everywhere : (desks : ℕ) (parts : List Part) (digits : Scheme) (limit : ℕ) → Everywhere K U R (opening desks parts digits limit)
  opening_everywhere desks parts digits limit = record {
    desks = λ a l. bare_desk (get_or (new_desks digits limit desks) a no_desk) (idle_bare digits limit desks a no_desk l);
    lent = λ i. none_lent K (256 * length parts) i;
    queued = λ b. none_queued (λ (p : QueuedState). All K p.buffers) desks b;
  }

flat_of_map : (parts : List Part) → flat_map (λ (bs : List ℕ). bs) (map bytes_of parts) ≡ flat_map bytes_of parts
flat_of_map [] = refl
flat_of_map (p ∷ parts) = ap (λ bs. bytes_of p ++ bs) (flat_of_map parts)

pub opening_holds : (desks : ℕ) (parts : List Part) (digits : Scheme) (limit : ℕ) (tail : List ℕ) → Holds (opening desks parts digits limit) (flat_map bytes_of parts ++ tail)
opening_holds desks parts digits limit tail =
    let region = flat_map bytes_of parts ++ tail in
    let v = opening desks parts digits limit in
    let e = opening_everywhere (BufferLies region) (FreshLies region) (RestLies region) desks parts digits limit in record {
      buffers = buffers_everywhere (BufferLies region) (FreshLies region) (RestLies region) v e;
      fresh = fresh_everywhere (BufferLies region) (FreshLies region) (RestLies region) v e;
      rests = chunks_everywhere (BufferLies region) (FreshLies region) (RestLies region) v e;
      undrawn = subst (λ bs. StandsAt bs 0 region) (sym (flat_of_map parts)) (stands_there (flat_map bytes_of parts) tail);
    }

pub opening_holds_some : (desks : ℕ) (parts : List Part) (digits : Scheme) (limit : ℕ) → HoldsSome (opening desks parts digits limit)
unfolding HoldsSome
opening_holds_some desks parts digits limit = (flat_map bytes_of parts ++ [], opening_holds desks parts digits limit [])
