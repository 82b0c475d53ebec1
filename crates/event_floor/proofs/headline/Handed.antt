-- Names of slots that are handed out.
use Rattle.std.proofs.Common.{◌≡◌, ◌≢◌, ℕ, suc, ◌+◌, ◌-◌, ◌*◌, ◌<◌, ◌≤◌, Bool, true, false, ◌==◌, cond, List, [], ◌∷◌, ◌++◌, length, get_or, set, All, Option, Some, None, refl, sym, ap, ◌∙◌, subst, arith, ⊎_elim, IsPermutation}
use Rattle.std.specs.List.{slice_get}
use Rattle.std.proofs.Math.Nat.{suc-mul}
use Rattle.std.proofs.lemmas.Bool.Decides.{eqb_tells}
use Rattle.std.proofs.lemmas.List.{length-set, length_push, length-append, get_or-set_same, get_or-set_other}
use Rattle.std.proofs.lemmas.List.Elements.{All-cons, All-head, All-tail}
use Rattle.std.proofs.lemmas.List.Sorted.{All-permutation, IsPermutation-sym}
use Rattle.region_cut.specs.Limits.{chunk_size}
use Rattle.region_cut.specs.declared.slot.Slot.{Slot}
use Rattle.region_cut.specs.Carved.{Carved}
use Rattle.region_cut.specs.Classes.{size_of, slots_of}
use Rattle.region_cut.specs.Laws.{StandsAt}
use Rattle.slot_chain.specs.Buffer.{Buffer}
use Rattle.slot_chain.specs.Filling.{emptied}
use Rattle.pool_desk.specs.Homes.{AtHome, Unused, slot_at, Names, TakesNext, taken_next}
use Rattle.pool_desk.specs.Homes.{GivenAs}
use Rattle.pool_desk.specs.Homes.AtHome.{Kept, Fresh}
use Rattle.pool_desk.specs.Desks.{DeskState}
use Rattle.pool_machine.specs.declared.chunk.DrawnChunk.{DrawnChunk}
use Rattle.event_floor.specs.Desks.AnyDeskState.{Held}
use Rattle.event_floor.specs.Lent.{index_of}
use Rattle.event_floor.specs.Inboxes.{QueuedState, inbox_at}
use Rattle.event_floor.specs.Desks.{home_of, cached_of}
use Rattle.event_floor.specs.Floors.{FloorState, desk_at, no_desk}
use Rattle.event_floor.specs.Steps.{LendsSlot}
use Rattle.pool_machine.specs.Slots.{one_if}
use Rattle.pool_machine.specs.State.{State}
use Rattle.pool_machine.proofs.Located.{Located}
use Rattle.event_floor.specs.headline.Listing.{listing_of}
use Rattle.event_floor.specs.headline.Names.{HasName, HasNoName, IsNamedHome, IsNamedChunk, IsNamedDesk, chunks_of, drew}
use Rattle.event_floor.proofs.headline.ByPlace.{NamesByPlace, is_drawn_for}
use Rattle.pool_machine.proofs.Enumerate.{count_cons}
use Rattle.event_floor.proofs.headline.Named.{held_named, changed_named, desk_named, each_place, emptied_named}
use Rattle.event_floor.proofs.headline.Stands.{stands_behind}
use Rattle.event_floor.proofs.headline.Taken.{get_pushed, get_last, get_set_same, get_set_other, some_is, count_zero, All-to, some_to, same_eqb, other_eqb, eqb_is, eqb_same, chunk_count, chunk_permuted}
use Rattle.event_floor.proofs.headline.Apart.{rest_apart, others_apart, more_than_none}

-- a chunk was drawn for one desk
drawn_apart : (a b : ℕ) (o : Option DrawnChunk) → is_drawn_for a o ≡ true → b ≢ a → is_drawn_for b o ≡ false
drawn_apart a b None e ne = refl
drawn_apart a b (Some d) e ne = other_eqb d.owner b (λ q. ne (sym q ∙ eqb_is d.owner a e))

-- what two facts say of each element
pub All-to-both : {X : Type 0} (P Q R : X → Type 0) (xs : List X) → ((x : X) → P x → Q x → R x) → All P xs → All Q xs → All R xs
All-to-both P Q R xs f p q = λ k d l. f (get_or xs k d) (p k d l) (q k d l)

module _ (names : List Carved) (v w : FloorState) (a n : ℕ) (slot : Slot) (f : NamesByPlace names v) (s : LendsSlot v a n slot w) where
  abbrev buffer : Buffer
  buffer = s.buffer

  lender_named : IsNamedDesk names v.drawn a (Held s.before)
  lender_named = held_named names v f a s.before s.held

  -- ---- a buffer that came home is lent as it was, but for what was filled

  kept_lent : (c : Buffer) → buffer ≡ emptied c → IsPermutation s.before.home (Kept c ∷ s.after.home) → s.after.drawn ≡ s.before.drawn → NamesByPlace names w
  kept_lent c e p same =
      let all = All-permutation (IsNamedHome names) _ _ p lender_named.home in
      let named : HasName names buffer = subst (HasName names) (sym e) (emptied_named names c (All-head (IsNamedHome names) (Kept c) s.after.home all)) in
      subst (NamesByPlace names) (sym s.same)
      (changed_named names v f a (Held s.after) (set v.lent (index_of slot) (Some buffer)) v.inboxes v.next s.held.0
      (desk_named names v f a s.before s.after lender_named same (All-tail (IsNamedHome names) (Kept c) s.after.home all)
      (subst (λ bs. All (HasName names) bs) (ap (λ (x : DeskState). x.cached) (sym s.allocs.2)) lender_named.cached))
      (each_place (HasName names) v.lent (index_of slot) (Some buffer) named f.lent) f.queued)

  -- ---- a slot is lent for the first time: its name is the next of its chunk

  module _ (u : Unused) (g : GivenAs (Fresh u) buffer) (t : TakesNext u buffer s.before.drawn s.after.drawn) (p : IsPermutation s.before.home (Fresh u ∷ s.after.home))
      (rest : All (λ y. slot_at y ≢ u.slot) s.after.home) (apart : (c : ℕ) → c ≢ a → All (λ y. slot_at y ≢ u.slot) (home_of (desk_at v c))) where
    abbrev chunk : ℕ
    chunk = u.slot.chunk

    abbrev taken : Carved
    taken = taken_next t.from buffer.bytes.ghost_name t.rest

    abbrev new_names : List Carved
    new_names = set names chunk taken

    at_chunk : slice_get names chunk ≡ Some t.from
    at_chunk = subst (λ k. slice_get names k ≡ Some t.from) t.chunk
        (All-head (λ (c : Carved). slice_get names c.chunk ≡ Some c) t.from t.others (All-permutation (λ (c : Carved). slice_get names c.chunk ≡ Some c) _ _ t.before lender_named.same))

    fresh_named : HasNoName names u
    fresh_named = All-head (IsNamedHome names) (Fresh u) s.after.home (All-permutation (IsNamedHome names) _ _ p lender_named.home)

    now_there : slice_get new_names chunk ≡ Some taken
    now_there = get_set_same names chunk taken t.from at_chunk

    kept_name : (b : Buffer) → HasName names b → HasName new_names b
    kept_name b h = ⊎_elim
        (λ (same : _ × (b.slot.chunk ≡ chunk)).
        let q : h.chunk ≡ t.from = some_is h.chunk t.from (sym h.is_chunk ∙ (ap (slice_get names) same.1 ∙ at_chunk)) in
        let r : HasName new_names b = record {
          chunk = taken;
          is_chunk = ap (slice_get new_names) same.1 ∙ now_there;
          class = ap (λ (c : Carved). c.class) (sym q) ∙ h.class;
          name = get_pushed t.from.taken buffer.bytes.ghost_name b.bytes.ghost_name b.slot.index (ap (λ (c : Carved). slice_get c.taken b.slot.index) (sym q) ∙ h.name);
          size = h.size;
        } in r)
        (λ (other : _ × (b.slot.chunk ≢ chunk)).
        let r : HasName new_names b = record { chunk = h.chunk; is_chunk = get_set_other names chunk b.slot.chunk taken other.1 ∙ h.is_chunk; class = h.class; name = h.name; size = h.size } in r)
        (eqb_tells b.slot.chunk chunk)

    kept_none : (x : Unused) → x.slot ≢ u.slot → HasNoName names x → HasNoName new_names x
    kept_none x ne h = ⊎_elim
        (λ (same : _ × (x.slot.chunk ≡ chunk)).
        let q : h.chunk ≡ t.from = some_is h.chunk t.from (sym h.is_chunk ∙ (ap (slice_get names) same.1 ∙ at_chunk)) in
        let low : length t.from.taken ≤ x.slot.index = subst (λ (c : Carved). length c.taken ≤ x.slot.index) q h.place in
        let apart_index : x.slot.index ≢ u.slot.index = (λ i. ne (λ j. record { chunk = same.1 j; index = i j })) in
        let more = length_push t.from.taken buffer.bytes.ghost_name in
        let at = t.place in
        let size : length buffer.bytes.now ≡ size_of x.class =
        ap length g.4 ∙ (fresh_named.size ∙ ap size_of (sym t.class_is ∙ (sym (ap (λ (c : Carved). c.class) q) ∙ h.class))) in
        let z = size_of x.class in
        let behind : (x.slot.index - length t.from.taken) * z ≡ length buffer.bytes.now + (x.slot.index - length taken.taken) * z =
        (let j : x.slot.index - length t.from.taken ≡ (x.slot.index - length taken.taken) + 1 = omega (arith, low, apart_index, more, at) in
        let m = suc-mul (x.slot.index - length taken.taken) z in
        ap (λ n. n * z) j ∙ omega (arith, m, size)) in
        let old_lies : StandsAt x.bytes ((x.slot.index - length t.from.taken) * z) t.from.rest = subst (λ (c : Carved). StandsAt x.bytes ((x.slot.index - length c.taken) * z) c.rest) q h.lies in
        let r : HasNoName new_names x = record {
          chunk = taken;
          is_chunk = ap (slice_get new_names) same.1 ∙ now_there;
          class = ap (λ (c : Carved). c.class) (sym q) ∙ h.class;
          part = ap (λ (c : Carved). c.whole) (sym q) ∙ h.part;
          place = omega (arith, low, apart_index, more, at);
          within = h.within;
          size = h.size;
          lies = stands_behind buffer.bytes.now x.bytes ((x.slot.index - length taken.taken) * z) t.rest
              (subst (λ bs. StandsAt x.bytes (length buffer.bytes.now + (x.slot.index - length taken.taken) * z) bs) t.left (subst (λ p. StandsAt x.bytes p t.from.rest) behind old_lies));
        } in r)
        (λ (other : _ × (x.slot.chunk ≢ chunk)).
        let r : HasNoName new_names x = record { chunk = h.chunk; is_chunk = get_set_other names chunk x.slot.chunk taken other.1 ∙ h.is_chunk; class = h.class; part = h.part; place = h.place; within = h.within; size = h.size; lies = h.lies } in r)
        (eqb_tells x.slot.chunk chunk)

    kept_home : (x : AtHome) → slot_at x ≢ u.slot → IsNamedHome names x → IsNamedHome new_names x
    kept_home (Kept b) ne h = kept_name b h
    kept_home (Fresh x) ne h = kept_none x ne h

    named_now : HasName new_names buffer
    named_now = record {
      chunk = taken;
      is_chunk = ap (λ (x : Slot). slice_get new_names x.chunk) g.0 ∙ now_there;
      class = t.class_is ∙ sym g.1;
      name = ap (λ (x : Slot). slice_get (t.from.taken ++ buffer.bytes.ghost_name ∷ []) x.index) g.0
          ∙ (ap (slice_get (t.from.taken ++ buffer.bytes.ghost_name ∷ [])) (sym t.place) ∙ get_last t.from.taken buffer.bytes.ghost_name);
      size = ap length g.4 ∙ (fresh_named.size ∙ ap size_of (sym g.1));
    }

    -- the chunk is in no other list, and once in that of the desk
    counted : (chunk_count chunk t.others ≡ 0) × (drew v.drawn a chunk ≡ true)
    counted =
        more_than_none (chunk_count chunk t.others) (drew v.drawn a chunk)
        (ap (λ (b : Bool). cond b 1 0 + chunk_count chunk t.others) (sym (same_eqb t.from.chunk chunk t.chunk))
        ∙ (sym (count_cons (λ (c : Carved). c.chunk == chunk) t.from t.others) ∙ (chunk_permuted chunk s.before.drawn (t.from ∷ t.others) t.before ∙ lender_named.once chunk)))

    stays_same : (cs : List Carved) → chunk_count chunk cs ≡ 0 → All (λ (c : Carved). slice_get names c.chunk ≡ Some c) cs → All (λ (c : Carved). slice_get new_names c.chunk ≡ Some c) cs
    stays_same cs z h = All-to-both (λ (c : Carved). (c.chunk == chunk) ≡ false) (λ (c : Carved). slice_get names c.chunk ≡ Some c) (λ (c : Carved). slice_get new_names c.chunk ≡ Some c) cs
        (λ c e k. get_set_other names chunk c.chunk taken (eqb_same c.chunk chunk e) ∙ k) (count_zero (λ (c : Carved). c.chunk == chunk) cs z) h

    other_desk : (b : ℕ) → b ≢ a → IsNamedDesk names v.drawn b (desk_at v b) → IsNamedDesk new_names v.drawn b (desk_at v b)
    other_desk b ne h = record {
      home = All-to-both (λ y. slot_at y ≢ u.slot) (IsNamedHome names) (IsNamedHome new_names) (home_of (desk_at v b)) kept_home (apart b ne) h.home;
      cached = All-to (HasName names) (HasName new_names) (cached_of (desk_at v b)) kept_name h.cached;
      same = stays_same (chunks_of (desk_at v b)) (h.once chunk ∙ ap one_if (drawn_apart a b (slice_get v.drawn chunk) counted.1 ne)) h.same;
      once = h.once;
    }

    lending_desk : IsNamedDesk new_names v.drawn a (Held s.after)
    lending_desk =
        let h = lender_named in
        let back = All-permutation (λ (c : Carved). slice_get names c.chunk ≡ Some c) _ _ t.before h.same in
        record {
          home = All-to-both (λ y. slot_at y ≢ u.slot) (IsNamedHome names) (IsNamedHome new_names) s.after.home kept_home rest
              (All-tail (IsNamedHome names) (Fresh u) s.after.home (All-permutation (IsNamedHome names) _ _ p h.home));
          cached = subst (λ bs. All (HasName new_names) bs) (ap (λ (x : DeskState). x.cached) (sym s.allocs.2)) (All-to (HasName names) (HasName new_names) s.before.cached kept_name h.cached);
          same = All-permutation (λ (c : Carved). slice_get new_names c.chunk ≡ Some c) _ _ (IsPermutation-sym _ _ t.after)
              (All-cons (λ (c : Carved). slice_get new_names c.chunk ≡ Some c) taken t.others (ap (slice_get new_names) t.chunk ∙ now_there)
              (stays_same t.others counted.0 (All-tail (λ (c : Carved). slice_get names c.chunk ≡ Some c) t.from t.others back)));
          once = λ j.
              sym (chunk_permuted j s.after.drawn (taken ∷ t.others) t.after)
              ∙ (count_cons (λ (c : Carved). c.chunk == j) taken t.others
              ∙ (sym (count_cons (λ (c : Carved). c.chunk == j) t.from t.others) ∙ (chunk_permuted j s.before.drawn (t.from ∷ t.others) t.before ∙ h.once j)));
        }

    taken_few : length taken.taken ≤ slots_of taken.class
    taken_few =
        let low : u.slot.index < slots_of t.from.class = subst (λ c. u.slot.index < slots_of c) (sym t.class_is) fresh_named.within in
        let more = length_push t.from.taken buffer.bytes.ghost_name in
        let at = t.place in
        omega (arith, low, more, at)

    taken_whole : length taken.taken * size_of taken.class + length taken.rest ≡ chunk_size
    taken_whole =
        let z = size_of t.from.class in
        let k = (f.chunks chunk t.from at_chunk).whole in
        let more : length taken.taken ≡ suc (length t.from.taken) = (let l = length_push t.from.taken buffer.bytes.ghost_name in omega (arith, l)) in
        let size : length buffer.bytes.now ≡ z = ap length g.4 ∙ (fresh_named.size ∙ ap size_of (sym t.class_is)) in
        let left : length t.from.rest ≡ length buffer.bytes.now + length t.rest = ap length t.left ∙ length-append buffer.bytes.now t.rest in
        subst (λ n. n * z + length t.rest ≡ chunk_size) (sym more) (omega (arith, suc-mul (length t.from.taken) z, size, left, k))

    taken_chunk : IsNamedChunk v.parts v.drawn chunk taken
    taken_chunk =
        let k = f.chunks chunk t.from at_chunk in
        record { number = t.chunk; class = k.class; part = k.part; few = taken_few; whole = taken_whole }

    lent_chunks : (j : ℕ) (c : Carved) → slice_get new_names j ≡ Some c → IsNamedChunk v.parts v.drawn j c
    lent_chunks j c e = ⊎_elim
        (λ (same : _ × (j ≡ chunk)).
        let q : taken ≡ c = some_is taken c (sym now_there ∙ (ap (slice_get new_names) (sym same.1) ∙ e)) in
        subst (IsNamedChunk v.parts v.drawn j) q (subst (λ i. IsNamedChunk v.parts v.drawn i taken) (sym same.1) taken_chunk))
        (λ (other : _ × (j ≢ chunk)). f.chunks j c (sym (get_set_other names chunk j taken other.1) ∙ e)) (eqb_tells j chunk)

    each_lending : (b : ℕ) → b < length (set v.desks a (Held s.after)) → IsNamedDesk new_names v.drawn b (get_or (set v.desks a (Held s.after)) b no_desk)
    each_lending b m = ⊎_elim
        (λ (same : _ × (b ≡ a)). rw same.1 (rw (get_or-set_same v.desks a (Held s.after) no_desk s.held.0) lending_desk))
        (λ (other : _ × (b ≢ a)). rw (get_or-set_other v.desks a b (Held s.after) no_desk other.1)
        (other_desk b other.1 (f.desks b (rw (length-set v.desks a (Held s.after)) at m)))) (eqb_tells b a)

    fresh_lent : NamesByPlace new_names w
    fresh_lent = subst (NamesByPlace new_names) (sym s.same) (record {
      count = length-set names chunk taken ∙ f.count;
      chunks = lent_chunks;
      desks = each_lending;
      lent = each_place (HasName new_names) v.lent (index_of slot) (Some buffer) named_now (λ i. some_to (HasName names) (HasName new_names) (get_or v.lent i None) kept_name (f.lent i));
      queued = λ b. All-to (λ (q : QueuedState). All (HasName names) q.buffers) (λ (q : QueuedState). All (HasName new_names) q.buffers) (inbox_at v.inboxes b)
          (λ q h. All-to (HasName names) (HasName new_names) q.buffers kept_name h) (f.queued b);
    })

  handed : (st : State) (count : Slot → ℕ) → Located (listing_of v) st count → (x : AtHome) → GivenAs x buffer → Names x buffer s.before.drawn s.after.drawn
      → IsPermutation s.before.home (x ∷ s.after.home) → (new : List Carved) × NamesByPlace new w
  handed st count h (Kept c) g m p = (names, kept_lent c g p m)
  handed st count h (Fresh u) g m p =
      (_, fresh_lent u g m p (rest_apart v st count h a s.before (Fresh u) s.after.home s.held p) (others_apart v st count h a s.before (Fresh u) s.after.home s.held p))

  pub alloc_named : (st : State) (count : Slot → ℕ) → Located (listing_of v) st count → (new : List Carved) × NamesByPlace new w
  alloc_named st count h = let g = s.allocs.1 in handed st count h g.from g.gives g.names g.others
