-- What is known once all buffers of a floor, and all parts that aren't drawn, were let go.
use Rattle.std.proofs.Common.{◌≡◌, ℕ, ◌+◌, ◌*◌, ◌-◌, ◌<◌, ◌≤◌, ◌==◌, List, [], ◌∷◌, ◌++◌, map, flat_map, length, take, get_or, All, Option, Some, None, is_some, refl, sym, ap, ap₂, ◌∙◌, subst, arith, ⊎_elim, IsPermutation}
use Rattle.std.specs.Prelude.{count_by, option_map}
use Rattle.std.specs.Borrow.{GName}
use Rattle.std.specs.List.{slice_get}
use Rattle.std.proofs.Math.Nat.{suc-mul, add-mul}
use Rattle.std.proofs.lemmas.Bool.{true≢false, cases_lt}
use Rattle.std.proofs.lemmas.Option.{slice_get-get_or, get_or_from_slice_get}
use Rattle.std.proofs.lemmas.List.{length-map, length-append, length-drop, length-take-le, get_or-map, get_or-drop, get_or-take, take-append-drop}
use Rattle.std.proofs.lemmas.Grind.{flat_map-append}
use Rattle.std.proofs.lemmas.List.Elements.{All-nil, All-cons, All-head, All-tail}
use Rattle.std.proofs.lemmas.List.Sorted.{All-permutation, IsPermutation-sym, IsPermutation-refl}
use Rattle.region_cut.specs.Limits.{chunk_size}
use Rattle.region_cut.specs.declared.slot.Slot.{Slot}
use Rattle.region_cut.specs.Carved.{Carved}
use Rattle.region_cut.specs.Classes.{size_of}
use Rattle.region_cut.specs.Endings.{Ended, name_at, Agrees, IsKnown, HasKnownSlots, end_in, ended_chunk}
use Rattle.region_cut.specs.Laws.{KnownEndsStay}
use Rattle.region_cut.specs.Laws.{StandsAt, BeginsWith, SlicesLieInOrder, SlotsLieAtTheirRanges}
use Rattle.region_cut.specs.Ranges.{start_of}
use Rattle.slot_chain.specs.Buffer.{Buffer, ended_of}
use Rattle.pool_desk.specs.Homes.{Unused}
use Rattle.pool_machine.specs.declared.chunk.DrawnChunk.{DrawnChunk}
use Rattle.event_floor.specs.Chunks.{ended_parts}
use Rattle.event_floor.specs.Floors.{FloorState, desk_at, desk_count}
use Rattle.pool_machine.specs.Slots.{one_if}
use Rattle.pool_machine.specs.State.{State}
use Rattle.pool_machine.proofs.Located.{Located}
use Rattle.event_floor.specs.headline.Bytes.{Holds, LieAt, RestLies, EndsAsHeld}
use Rattle.event_floor.specs.headline.Lying.{UnusedSlotsLie}
use Rattle.event_floor.specs.headline.EndsKnown.{buffers_of, fresh_of, undrawn_parts, EndsAsDrawn, EndsKnown}
use Rattle.event_floor.specs.headline.Listing.{desk_of, listing_of}
use Rattle.event_floor.specs.headline.Headline.{Shows}
use Rattle.pool_machine.proofs.Shown.{located}
use Rattle.event_floor.specs.headline.Names.{HasName, HasNoName, IsNamed, chunks_of}
use Rattle.event_floor.proofs.headline.ByPlace.{NamesByPlace, is_drawn_for, by_place, by_list}
use Rattle.event_floor.specs.headline.Whole.{IsStocked, IsWhole}
use Rattle.event_floor.proofs.headline.Lists.{All-first, All-second}
use Rattle.event_floor.proofs.headline.Found.{All-flat, All-parts, found, at_each_desk, buffers_named, taken_buffer}
use Rattle.event_floor.proofs.headline.Counts.{some_at}
use Rattle.event_floor.proofs.headline.Handed.{All-to-both}
use Rattle.event_floor.proofs.headline.Kept.{fresh_named}
use Rattle.event_floor.proofs.headline.Stands.{stands_join, stands_in_front, stands_within, flat_stand}
use Rattle.event_floor.proofs.headline.Taken.{All-to, some_is, same_eqb, eqb_is}

-- ---- lists

flat_same : {X Y : Type 0} (f g : X → List Y) (xs : List X) → All (λ x. f x ≡ g x) xs → flat_map f xs ≡ flat_map g xs
flat_same f g [] h = refl
flat_same f g (x ∷ xs) h = ap₂ ◌++◌ (All-head (λ y. f y ≡ g y) x xs h) (flat_same f g xs (All-tail (λ y. f y ≡ g y) x xs h))

length_flat : {X Y : Type 0} (f : X → List Y) (z : ℕ) (xs : List X) → All (λ x. length (f x) ≡ z) xs → length (flat_map f xs) ≡ length xs * z
length_flat f z [] h = omega arith
length_flat f z (x ∷ xs) h =
    let one = All-head (λ y. length (f y) ≡ z) x xs h in
    let more = length_flat f z xs (All-tail (λ y. length (f y) ≡ z) x xs h) in
    let both = length-append (f x) (flat_map f xs) in
    omega (arith, one, more, both, suc-mul (length xs) z)

unmap : {X Y : Type 0} (P : Y → Type 0) (f : X → Y) (xs : List X) → All P (map f xs) → All (λ x. P (f x)) xs
unmap P f [] h = All-nil (λ x. P (f x))
unmap P f (x ∷ xs) h = All-cons (λ y. P (f y)) x xs (All-head P (f x) (map f xs) h) (unmap P f xs (All-tail P (f x) (map f xs) h))

-- ---- a slot that was never handed out

-- the slots that were handed out before it, and those that weren't
before : (m i z : ℕ) → m ≤ i → m * z + (i - m) * z ≡ i * z
before m i z l = sym (add-mul m (i - m) z) ∙ ap (λ k. k * z) (let e : m + (i - m) ≡ i = omega (arith, l) in e)

pub unused_lies : SlicesLieInOrder → UnusedSlotsLie
unused_lies order end v names n u g region at sizes ends =
    let c = g.chunk in
    let k = u.slot.chunk in
    let z = size_of u.class in
    let taken = flat_map end c.taken in
    let long : length taken ≡ length c.taken * z = length_flat end z c.taken sizes in
    let place : length taken + (u.slot.index - length c.taken) * z ≡ u.slot.index * z =
    ap (λ m. m + (u.slot.index - length c.taken) * z) long ∙ before (length c.taken) u.slot.index z g.place in
    let in_chunk : StandsAt u.bytes (u.slot.index * z) (end c.whole) =
    subst (λ bs. StandsAt u.bytes (u.slot.index * z) bs) (sym ends)
    (subst (λ p. StandsAt u.bytes p (taken ++ c.rest)) place (stands_in_front taken u.bytes ((u.slot.index - length c.taken) * z) c.rest g.lies)) in
    let chunk : StandsAt (end c.whole) (k * chunk_size) region = order end v.parts chunk_size region at k c.whole (n.chunks k c g.is_chunk).part in
    let at : k * chunk_size + u.slot.index * z ≡ start_of u.slot u.class = omega arith in
    subst (λ p. StandsAt u.bytes p region) at (stands_within (u.slot.index * z) (k * chunk_size) u.bytes (end c.whole) region in_chunk chunk)

-- ---- what is noted

-- the slice ends so
abbrev pub EndsSo : List Ended → Ended → Type 0
EndsSo known e = IsKnown known e.name × (end_in known e.name ≡ e.bytes)

pub noted : (known : List Ended) → Agrees known → All (EndsSo known) known
noted known h = λ k d l. (
  (k, subst (λ n. k < n) (sym (length-map known name_at)) l, get_or-map name_at known k d (get_or known k d).name l),
  h k d l,
)

parts_end : (known : List Ended) (xs : List GName) (bs : List (List ℕ)) → length xs ≡ length bs → All (EndsSo known) (ended_parts xs bs)
    → All (IsKnown known) xs × (map (end_in known) xs ≡ bs)
parts_end known [] [] e h = (All-nil (IsKnown known), refl)
parts_end known [] (b ∷ bs) e h = absurd (omega (arith, e))
parts_end known (x ∷ xs) [] e h = absurd (omega (arith, e))
parts_end known (x ∷ xs) (b ∷ bs) e h =
    let here = All-head (EndsSo known) (record { name = x; bytes = b }) (ended_parts xs bs) h in
    let more = parts_end known xs bs (omega (arith, e)) (All-tail (EndsSo known) (record { name = x; bytes = b }) (ended_parts xs bs) h) in
    (All-cons (IsKnown known) x xs here.0 more.0, ap₂ ◌∷◌ here.1 more.1)

-- ---- the floor's chunks

owner_at : (o : Option DrawnChunk) (class : ℕ) → option_map (λ (d : DrawnChunk). d.class) o ≡ Some class → (d : DrawnChunk) × (o ≡ Some d)
owner_at None class e = absurd (true≢false (sym (ap is_some e)))
owner_at (Some d) class e = (d, refl)

module _ (v : FloorState) (names : List Carved) (n : NamesByPlace names v) (st : State) (count : Slot → ℕ) (h : Located (listing_of v) st count) where
  -- what holds of each chunk that a desk knows holds of each drawn chunk
  of_chunk : (P : Carved → Type 0) → All P (flat_map chunks_of v.desks) → (k : ℕ) (c : Carved) → slice_get names k ≡ Some c → P c
  of_chunk P all k c e =
      let o = owner_at (slice_get v.drawn k) c.class (n.chunks k c e).class in
      let a = o.0.owner in
      let low : a < desk_count v =
      subst (λ m. a < m) (sym (sym (length-map v.desks desk_of) ∙ h.frame.desks)) (h.sound.chunks_fit k o.0 (sym (h.frame.drawn k) ∙ o.1)).1 in
      let desk = n.desks a low in
      let here : All P (chunks_of (desk_at v a)) = All-parts P chunks_of v.desks all a _ low in
      let once : count_by (λ (d : Carved). d.chunk == k) (chunks_of (desk_at v a)) ≡ 1 =
      desk.once k ∙ ap one_if (ap (is_drawn_for a) o.1 ∙ same_eqb a a refl) in
      let f = found (λ (d : Carved). (slice_get names d.chunk ≡ Some d) × P d) (λ (d : Carved). d.chunk == k) (chunks_of (desk_at v a)) (λ i d l. (desk.same i d l, here i d l))
      (omega (arith, once)) in
      subst P (some_is f.0 c (sym f.2.0 ∙ (ap (slice_get names) (eqb_is f.0.chunk k f.1) ∙ e))) f.2.1

  -- ---- all buffers were let go

  module _ (first : List Ended) (agree : Agrees first) (held : All (EndsSo first) (map ended_of (buffers_of v))) where
    abbrev IsLetGo : Buffer → Type 0
    IsLetGo b = EndsSo first (ended_of b)

    all_let_go : All IsLetGo (buffers_of v)
    all_let_go = unmap (EndsSo first) ended_of (buffers_of v) held

    -- the slice is known, and has as many bytes as a slot of the chunk
    abbrev IsSlot : Carved → GName → Type 0
    IsSlot c x = IsKnown first x × (length (end_in first x) ≡ size_of c.class)

    -- the slice at a place of a chunk, as a buffer of the floor has it
    slice_let_go : (k : ℕ) (c : Carved) → slice_get names k ≡ Some c → All (IsSlot c) c.taken
    slice_let_go k c e = λ i d l.
        (let x = get_or c.taken i d in
        let f = taken_buffer v names n st count h IsLetGo all_let_go k i c x e (slice_get-get_or c.taken i d l) in
        let is : f.0.bytes.ghost_name ≡ x = f.1 in (
          subst (IsKnown first) is f.4.0,
          ap (λ y. length (end_in first y)) (sym is) ∙ (ap length f.4.1 ∙ (f.3.size ∙ ap size_of f.2)),
        ))

    pub slots_known : (chunks : List Carved) → IsPermutation (flat_map chunks_of v.desks) chunks → All (HasKnownSlots first) chunks
    slots_known chunks p =
        All-permutation (HasKnownSlots first) _ _ p
        (All-flat (HasKnownSlots first) chunks_of v.desks (at_each_desk (λ s. All (HasKnownSlots first) (chunks_of s)) v
        (λ a l. All-to (λ (c : Carved). slice_get names c.chunk ≡ Some c) (HasKnownSlots first) (chunks_of (desk_at v a))
        (λ c e. All-to (IsSlot c) (IsKnown first) c.taken (λ x y. y.0) (slice_let_go c.chunk c e)) (n.desks a l).same)))

    -- ---- all chunks were closed

    module _ (chunks : List Carved) (p : IsPermutation (flat_map chunks_of v.desks) chunks) (agree' : Agrees (map (ended_chunk first) chunks ++ first)) (stay : KnownEndsStay) where
      abbrev second : List Ended
      second = map (ended_chunk first) chunks ++ first

      stays : (x : GName) → IsKnown first x → IsKnown second x × (end_in second x ≡ end_in first x)
      stays x k = stay (map (ended_chunk first) chunks) first agree agree' x k

      chunk_ends : (k : ℕ) (c : Carved) → slice_get names k ≡ Some c → EndsSo second (ended_chunk first c)
      chunk_ends k c e =
          of_chunk (λ d. EndsSo second (ended_chunk first d))
          (All-permutation (λ d. EndsSo second (ended_chunk first d)) _ _ (IsPermutation-sym _ _ p)
          (unmap (EndsSo second) (ended_chunk first) chunks (All-first (EndsSo second) (map (ended_chunk first) chunks) first (noted second agree')))) k c e

      slices_stay : (k : ℕ) (c : Carved) → slice_get names k ≡ Some c → All (λ x. end_in first x ≡ end_in second x) c.taken
      slices_stay k c e = All-to (IsSlot c) (λ x. end_in first x ≡ end_in second x) c.taken (λ x y. sym (stays x y.0).1) (slice_let_go k c e)

      ends_as_drawn : (k : ℕ) (c : Carved) → slice_get names k ≡ Some c → EndsAsDrawn second c
      ends_as_drawn k c e = (chunk_ends k c e).1 ∙ ap (λ bs. bs ++ c.rest) (flat_same (end_in first) (end_in second) c.taken (slices_stay k c e))

      chunk_begins : (k : ℕ) (c : Carved) → slice_get names k ≡ Some c → BeginsWith (end_in second) c.taken (size_of c.class) (end_in second c.whole)
      chunk_begins k c e = record {
        sizes = All-to (IsSlot c) (λ x. length (end_in second x) ≡ size_of c.class) c.taken (λ x y. ap length (stays x y.0).1 ∙ y.1) (slice_let_go k c e);
        rest = c.rest;
        joined = ends_as_drawn k c e;
      }

      chunk_whole : (k : ℕ) (c : Carved) → slice_get names k ≡ Some c → length (end_in second c.whole) ≡ chunk_size
      chunk_whole k c e =
          let z = size_of c.class in
          let all : length (end_in second c.whole) ≡ length (flat_map (end_in first) c.taken) + length c.rest = ap length (chunk_ends k c e).1 ∙ length-append
          (flat_map (end_in first) c.taken) c.rest in
          let slots : length (flat_map (end_in first) c.taken) ≡ length c.taken * z =
          length_flat (end_in first) z c.taken (All-to (IsSlot c) (λ x. length (end_in first x) ≡ z) c.taken (λ x y. y.1) (slice_let_go k c e)) in
          let w = (n.chunks k c e).whole in
          omega (arith, all, slots, w)

      -- ---- the parts

      module _ (stocked : IsStocked v) (left : All (EndsSo first) (ended_parts (undrawn_parts v) v.undrawn)) where
        as_many : length (undrawn_parts v) ≡ length v.undrawn
        as_many = let e = stocked.0 in let l = length-drop (length v.drawn) v.parts in omega (arith, e, l)

        parts_left : All (IsKnown first) (undrawn_parts v) × (map (end_in first) (undrawn_parts v) ≡ v.undrawn)
        parts_left = parts_end first (undrawn_parts v) v.undrawn as_many left

        abbrev HasStayed : GName → Type 0
        HasStayed x = IsKnown second x × (end_in first x ≡ end_in second x)

        left_stays : All HasStayed (undrawn_parts v)
        left_stays = All-to (IsKnown first) HasStayed (undrawn_parts v) (λ x k. ((stays x k).0, sym (stays x k).1)) parts_left.0

        map_same : (f g : GName → List ℕ) (xs : List GName) → All (λ x. f x ≡ g x) xs → map f xs ≡ map g xs
        map_same f g [] a = refl
        map_same f g (x ∷ xs) a = ap₂ ◌∷◌ (All-head (λ y. f y ≡ g y) x xs a) (map_same f g xs (All-tail (λ y. f y ≡ g y) x xs a))

        left_ends : map (end_in second) (undrawn_parts v) ≡ v.undrawn
        left_ends =
            sym (map_same (end_in first) (end_in second) (undrawn_parts v) (All-to HasStayed (λ x. end_in first x ≡ end_in second x) (undrawn_parts v) (λ x y. y.1) left_stays))
            ∙ parts_left.1

        left_whole : All (λ x. length (end_in second x) ≡ chunk_size) (undrawn_parts v)
        left_whole = unmap (λ (bs : List ℕ). length bs ≡ chunk_size) (end_in second) (undrawn_parts v) (subst (λ bs. All (λ (b : List ℕ). length b ≡ chunk_size) bs) (sym left_ends) stocked.1)

        -- what holds of the part of each drawn chunk, and of each other part
        each_part : (P : GName → Type 0) → ((k : ℕ) (c : Carved) → slice_get names k ≡ Some c → P c.whole) → All P (undrawn_parts v) → All P v.parts
        each_part P f g = λ k d l. ⊎_elim
            (λ (low : k < length v.drawn).
            let m : k < length names = (let e = n.count in omega (arith, low, e)) in
            let o = some_at names k m in
            subst P (sym (get_or_from_slice_get v.parts k o.0.whole d (n.chunks k o.0 o.1).part)) (f k o.0 o.1))
            (λ (high : length v.drawn ≤ k).
            let j = k - length v.drawn in
            let back : length v.drawn + j ≡ k = omega (arith, high) in
            let m : j < length (undrawn_parts v) = (let e = length-drop (length v.drawn) v.parts in omega (arith, high, l, e)) in
            subst P (get_or-drop (length v.drawn) v.parts j d ∙ ap (λ i. get_or v.parts i d) back) (g j d m)) (cases_lt k (length v.drawn))

        pub all_ends_known : SlotsLieAtTheirRanges → SlicesLieInOrder → EndsKnown v second
        all_ends_known lie order = record {
          parts = each_part (IsKnown second) (λ k c e. (chunk_ends k c e).0) (All-to HasStayed (IsKnown second) (undrawn_parts v) (λ x y. y.0) left_stays);
          whole = whole;
          buffers = λ tail. All-to-both (HasName names) IsLetGo (λ b. StandsAt b.bytes.now (start_of b.slot b.class) (flat_map (end_in second) v.parts ++ tail)) (buffers_of v)
              (lies tail) (buffers_named v names n) all_let_go;
          fresh = λ tail. All-to (HasNoName names) (λ u. StandsAt u.bytes (start_of u.slot u.class) (flat_map (end_in second) v.parts ++ tail)) (fresh_of v)
              (fresh_lies tail) (fresh_named names v n);
          drawn = All-flat (EndsAsDrawn second) chunks_of v.desks (at_each_desk (λ s. All (EndsAsDrawn second) (chunks_of s)) v
              (λ a l. All-to (λ (c : Carved). slice_get names c.chunk ≡ Some c) (EndsAsDrawn second) (chunks_of (desk_at v a))
              (λ c e. ends_as_drawn c.chunk c e) (n.desks a l).same));
          undrawn = left_ends;
        }
          where
            whole : All (λ x. length (end_in second x) ≡ chunk_size) v.parts
            whole = each_part (λ x. length (end_in second x) ≡ chunk_size) chunk_whole left_whole

            fresh_lies : (tail : List ℕ) (u : Unused) → HasNoName names u → StandsAt u.bytes (start_of u.slot u.class) (flat_map (end_in second) v.parts ++ tail)
            fresh_lies tail u g =
                unused_lies order (end_in second) v names (by_list names v n) u g (flat_map (end_in second) v.parts ++ tail) (record { sizes = whole; rest = tail; joined = refl })
                (All-to (λ x. length (end_in second x) ≡ size_of g.chunk.class) (λ x. length (end_in second x) ≡ size_of u.class) g.chunk.taken (λ x e. e ∙ ap size_of g.class)
                (chunk_begins u.slot.chunk g.chunk g.is_chunk).sizes)
                (ends_as_drawn u.slot.chunk g.chunk g.is_chunk)

            lies : (tail : List ℕ) (b : Buffer) → HasName names b → IsLetGo b → StandsAt b.bytes.now (start_of b.slot b.class) (flat_map (end_in second) v.parts ++ tail)
            lies tail b q r =
                subst (λ bs. StandsAt bs (start_of b.slot b.class) (flat_map (end_in second) v.parts ++ tail)) ((stays b.bytes.ghost_name r.0).1 ∙ r.1)
                (lie (end_in second) b.slot b.class (flat_map (end_in second) v.parts ++ tail) v.parts (record { sizes = whole; rest = tail; joined = refl })
                q.chunk.whole (n.chunks b.slot.chunk q.chunk q.is_chunk).part q.chunk.taken
                (subst (λ z. BeginsWith (end_in second) q.chunk.taken (size_of z) (end_in second q.chunk.whole)) q.class
                (chunk_begins b.slot.chunk q.chunk q.is_chunk)) b.bytes.ghost_name q.name)

        -- ---- where the bytes of before stand

        module _ (region : List ℕ) (lie : Holds v region) where
          abbrev IsThere : Buffer → Type 0
          IsThere b = IsLetGo b × LieAt region b.slot b.class b.bytes.now

          -- a slice that was taken of a chunk
          slice_stands : (k i : ℕ) (c : Carved) (x : GName) → slice_get names k ≡ Some c → slice_get c.taken i ≡ Some x
              → StandsAt (end_in second x) (chunk_size * k + i * size_of c.class) region
          slice_stands k i c x e at =
              let f = taken_buffer v names n st count h IsThere (λ j d l. (all_let_go j d l, lie.buffers j d l)) k i c x e at in
              let b = f.0 in
              let bytes : end_in second x ≡ b.bytes.now = ap (end_in second) (sym f.1) ∙ ((stays b.bytes.ghost_name f.4.0.0).1 ∙ f.4.0.1) in
              let slot : StandsAt b.bytes.now (chunk_size * k + i * size_of b.class) region = subst (λ (s : Slot). StandsAt b.bytes.now (start_of s b.class) region) f.5 f.4.1 in
              subst (λ bs. StandsAt bs (chunk_size * k + i * size_of c.class) region) (sym bytes) (subst (λ z. StandsAt b.bytes.now (chunk_size * k + i * size_of z) region) f.2 slot)

          chunk_stands : (k : ℕ) (c : Carved) → slice_get names k ≡ Some c → StandsAt (end_in second c.whole) (chunk_size * k) region
          chunk_stands k c e =
              let z = size_of c.class in
              let taken = flat_map (end_in second) c.taken in
              let sizes = (chunk_begins k c e).sizes in
              let number = (n.chunks k c e).number in
              let long : length taken ≡ length c.taken * z = length_flat (end_in second) z c.taken sizes in
              let place : chunk_size * c.chunk + length c.taken * z ≡ chunk_size * k + length taken = ap (λ j. chunk_size * j + length c.taken * z) number ∙ ap (λ m. chunk_size * k + m) (sym long) in
              subst (λ bs. StandsAt bs (chunk_size * k) region) (sym (ends_as_drawn k c e))
              (stands_join taken c.rest (chunk_size * k) region
              (flat_stand (end_in second) z (chunk_size * k) region c.taken sizes (λ i d l. slice_stands k i c (get_or c.taken i d) e (slice_get-get_or c.taken i d l)))
              (subst (λ m. StandsAt c.rest m region) place (of_chunk (RestLies region) lie.rests k c e)))

          abbrev drawn_parts : List GName
          drawn_parts = take (length v.drawn) v.parts

          few_drawn : length drawn_parts ≡ length v.drawn
          few_drawn = length-take-le (length v.drawn) v.parts (let e = stocked.0 in omega (arith, e))

          -- the part of a place
          part_stands : (i : ℕ) (d : GName) → i < length v.drawn → StandsAt (end_in second (get_or v.parts i d)) (0 + i * chunk_size) region
          part_stands i d l =
              let m : i < length names = (let e = n.count in omega (arith, l, e)) in
              let o = some_at names i m in
              let place : chunk_size * i ≡ 0 + i * chunk_size = omega arith in
              subst (λ x. StandsAt (end_in second x) (0 + i * chunk_size) region) (sym (get_or_from_slice_get v.parts i o.0.whole d (n.chunks i o.0 o.1).part))
              (subst (λ m. StandsAt (end_in second o.0.whole) m region) place (chunk_stands i o.0 o.1))

          part_sizes : All (λ x. length (end_in second x) ≡ chunk_size) drawn_parts
          part_sizes = λ i d l.
              (let m : i < length v.drawn = (let e = few_drawn in omega (arith, l, e)) in
              let k : i < length v.parts = (let e = stocked.0 in omega (arith, m, e)) in
              subst (λ x. length (end_in second x) ≡ chunk_size) (sym (get_or-take (length v.drawn) v.parts i d m))
              (each_part (λ x. length (end_in second x) ≡ chunk_size) chunk_whole left_whole i d k))

          drawn_stand : StandsAt (flat_map (end_in second) drawn_parts) 0 region
          drawn_stand =
              flat_stand (end_in second) chunk_size 0 region drawn_parts part_sizes
              (λ i d l. (let m : i < length v.drawn = (let e = few_drawn in omega (arith, l, e)) in
              subst (λ x. StandsAt (end_in second x) (0 + i * chunk_size) region) (sym (get_or-take (length v.drawn) v.parts i d m)) (part_stands i d m)))

          flat_of_ends : (xs : List GName) → flat_map (λ (bs : List ℕ). bs) (map (end_in second) xs) ≡ flat_map (end_in second) xs
          flat_of_ends [] = refl
          flat_of_ends (x ∷ xs) = ap (λ bs. end_in second x ++ bs) (flat_of_ends xs)

          left_stand : StandsAt (flat_map (end_in second) (undrawn_parts v)) (0 + length (flat_map (end_in second) drawn_parts)) region
          left_stand =
              let long = length_flat (end_in second) chunk_size drawn_parts part_sizes in
              let few = few_drawn in
              let place : chunk_size * length v.drawn ≡ 0 + length (flat_map (end_in second) drawn_parts) = omega (arith, long, few) in
              subst (λ m. StandsAt (flat_map (end_in second) (undrawn_parts v)) m region) place
              (subst (λ bs. StandsAt bs (chunk_size * length v.drawn) region) (flat_of_ends (undrawn_parts v))
              (subst (λ us. StandsAt (flat_map (λ (bs : List ℕ). bs) us) (chunk_size * length v.drawn) region) (sym left_ends) lie.undrawn))

          pub parts_stand : StandsAt (flat_map (end_in second) v.parts) 0 region
          parts_stand =
              subst (λ ps. StandsAt (flat_map (end_in second) ps) 0 region) (take-append-drop (length v.drawn) v.parts)
              (subst (λ bs. StandsAt bs 0 region) (sym (flat_map-append (end_in second) drawn_parts (undrawn_parts v)))
              (stands_join (flat_map (end_in second) drawn_parts) (flat_map (end_in second) (undrawn_parts v)) 0 region drawn_stand left_stand))

-- ---- a floor

module _ (v : FloorState) (whole : IsWhole v) (shows : Shows v) (named : IsNamed v) (first : List Ended) (chunks : List Carved) (agree : Agrees first)
    (are : chunks ≡ flat_map chunks_of v.desks)
    (p : IsPermutation (map ended_of (buffers_of v) ++ ended_parts (undrawn_parts v) v.undrawn) first) where
  all_noted : All (EndsSo first) (map ended_of (buffers_of v) ++ ended_parts (undrawn_parts v) v.undrawn)
  all_noted = All-permutation (EndsSo first) _ _ (IsPermutation-sym _ _ p) (noted first agree)

  held : All (EndsSo first) (map ended_of (buffers_of v))
  held = All-first (EndsSo first) (map ended_of (buffers_of v)) (ended_parts (undrawn_parts v) v.undrawn) all_noted

  left : All (EndsSo first) (ended_parts (undrawn_parts v) v.undrawn)
  left = All-second (EndsSo first) (map ended_of (buffers_of v)) (ended_parts (undrawn_parts v) v.undrawn) all_noted

  same : IsPermutation (flat_map chunks_of v.desks) chunks
  same = subst (IsPermutation (flat_map chunks_of v.desks)) (sym are) (IsPermutation-refl (flat_map chunks_of v.desks))

  pub floor_slots : All (HasKnownSlots first) chunks
  unfolding Shows IsNamed
  floor_slots = slots_known v named.0 (by_place named.0 v named.1) shows.0 shows.1 (located (listing_of v) shows.0 shows.1 shows.2) first agree held chunks same

  pub floor_ends : (last : List Ended) → last ≡ map (ended_chunk first) chunks ++ first → Agrees last → KnownEndsStay → SlotsLieAtTheirRanges → SlicesLieInOrder → EndsKnown v last
  unfolding Shows IsNamed
  floor_ends last is agree' stay lie order =
      subst (EndsKnown v) (sym is) (all_ends_known v named.0 (by_place named.0 v named.1) shows.0 shows.1 (located (listing_of v) shows.0 shows.1 shows.2) first agree held chunks same (subst Agrees is agree') stay whole.stocked left lie order)

  pub floor_held : (last : List Ended) → last ≡ map (ended_chunk first) chunks ++ first → Agrees last → KnownEndsStay → EndsAsHeld v last
  unfolding Shows IsNamed
  floor_held last is agree' stay region lie =
      subst (λ (all : List Ended). StandsAt (flat_map (end_in all) v.parts) 0 region) (sym is)
      (parts_stand v named.0 (by_place named.0 v named.1) shows.0 shows.1 (located (listing_of v) shows.0 shows.1 shows.2) first agree held chunks same (subst Agrees is agree') stay whole.stocked left region lie)
