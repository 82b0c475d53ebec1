-- Names of chunks that are drawn, and of slots that are handed out for the first time.
use Rattle.std.proofs.Common.{◌≡◌, ◌≢◌, ℕ, zero, suc, ◌+◌, ◌-◌, ◌*◌, ◌<◌, ◌≤◌, Bool, true, false, ◌==◌, cond, List, [], ◌∷◌, ◌++◌, length, get_or, set, take, drop, All, Option, Some, None, is_some, refl, sym, ap, ap₂, ◌∙◌, subst, arith, ⊎_elim, IsPermutation}
use Rattle.std.specs.Prelude.{IfSome, count_by, option_map}
use Rattle.std.specs.List.{slice_get}
use Rattle.std.proofs.lemmas.Bool.{true≢false}
use Rattle.std.proofs.lemmas.Bool.Decides.{eqb_tells}
use Rattle.std.proofs.lemmas.Option.{slice_get_past}
use Rattle.std.proofs.lemmas.List.{length-set, length_push, length-take-le, length-drop, get_or-set_same, get_or-set_other}
use Rattle.std.proofs.Math.Nat.{suc-mul, div-mul-le_self}
use Rattle.std.proofs.lemmas.List.Elements.{All-nil, All-cons, All-append}
use Rattle.region_cut.specs.Limits.{chunk_size}
use Rattle.std.proofs.lemmas.List.Sorted.{All-permutation, sum_by-IsPermutation}
use Rattle.region_cut.specs.Carved.{Carved}
use Rattle.region_cut.specs.Classes.{slots_of, size_of}
use Rattle.region_cut.specs.Laws.{StandsAt}
use Rattle.slot_chain.specs.Buffer.{Buffer}
use Rattle.pool_desk.specs.Homes.{AtHome, unused_from}
use Rattle.pool_desk.specs.Homes.AtHome.{Kept, Fresh}
use Rattle.pool_desk.specs.Desks.{DeskState}
use Rattle.pool_machine.specs.declared.chunk.DrawnChunk.{DrawnChunk}
use Rattle.event_floor.specs.Desks.AnyDeskState.{Held}
use Rattle.event_floor.specs.Inboxes.{QueuedState, inbox_at}
use Rattle.event_floor.specs.Desks.{AnyDeskState, home_of, cached_of}
use Rattle.event_floor.specs.Floors.{FloorState, desk_at, no_desk}
use Rattle.event_floor.specs.Steps.{DrawsChunk}
use Rattle.pool_machine.specs.Slots.{one_if}
use Rattle.event_floor.specs.headline.Names.{HasName, IsNamedHome, IsNamedChunk, IsNamedDesk, chunks_of, drew}
use Rattle.event_floor.proofs.headline.ByPlace.{NamesByPlace, is_drawn_for}
use Rattle.pool_machine.proofs.Enumerate.{count_cons}
use Rattle.event_floor.proofs.headline.Named.{held_named}
use Rattle.event_floor.proofs.headline.Stands.{stands_take, stands_drop, stands_whole}

-- ---- lists

pub get_pushed : {X : Type 0} (xs : List X) (x y : X) (k : ℕ) → slice_get xs k ≡ Some y → slice_get (xs ++ x ∷ []) k ≡ Some y
get_pushed [] x y k e = absurd (true≢false (sym (ap is_some e)))
get_pushed (z ∷ xs) x y zero e = e
get_pushed (z ∷ xs) x y (suc k) e = get_pushed xs x y k e

pub get_last : {X : Type 0} (xs : List X) (x : X) → slice_get (xs ++ x ∷ []) (length xs) ≡ Some x
get_last [] x = refl
get_last (y ∷ xs) x = get_last xs x

-- behind the last place nothing was pushed, and before it all is as it was
get_before : {X : Type 0} (xs : List X) (x : X) (k : ℕ) → k ≢ length xs → slice_get (xs ++ x ∷ []) k ≡ slice_get xs k
get_before [] x zero ne = absurd (ne refl)
get_before [] x (suc k) ne = refl
get_before (y ∷ xs) x zero ne = refl
get_before (y ∷ xs) x (suc k) ne = get_before xs x k (λ e. ne (omega (arith, e)))

pub get_set_same : {X : Type 0} (xs : List X) (k : ℕ) (x y : X) → slice_get xs k ≡ Some y → slice_get (set xs k x) k ≡ Some x
get_set_same [] k x y e = absurd (true≢false (sym (ap is_some e)))
get_set_same (z ∷ xs) zero x y e = refl
get_set_same (z ∷ xs) (suc k) x y e = get_set_same xs k x y e

pub get_set_other : {X : Type 0} (xs : List X) (k j : ℕ) (x : X) → j ≢ k → slice_get (set xs k x) j ≡ slice_get xs j
get_set_other [] zero j x ne = refl
get_set_other [] (suc k) j x ne = refl
get_set_other (z ∷ xs) zero zero x ne = absurd (ne refl)
get_set_other (z ∷ xs) zero (suc j) x ne = refl
get_set_other (z ∷ xs) (suc k) zero x ne = refl
get_set_other (z ∷ xs) (suc k) (suc j) x ne = get_set_other xs k j x (λ e. ne (omega (arith, e)))

pub some_is : {X : Type 0} (x y : X) → Some x ≡ Some y → x ≡ y
some_is x y e = cc

pub count_zero : {X : Type 0} (p : X → Bool) (xs : List X) → count_by p xs ≡ 0 → All (λ x. p x ≡ false) xs
count_zero p [] e = All-nil (λ x. p x ≡ false)
count_zero p (x ∷ xs) e = go (p x) refl (sym (count_cons p x xs) ∙ e) (count_zero p xs)
  where
    go : (b : Bool) → p x ≡ b → cond b 1 0 + count_by p xs ≡ 0 → (count_by p xs ≡ 0 → All (λ y. p y ≡ false) xs) → All (λ y. p y ≡ false) (x ∷ xs)
    go true q f r = absurd (omega (arith, f))
    go false q f r = All-cons (λ y. p y ≡ false) x xs q (r (omega (arith, f)))

pub All-to : {X : Type 0} (P Q : X → Type 0) (xs : List X) → ((x : X) → P x → Q x) → All P xs → All Q xs
All-to P Q xs f h = λ k d l. f (get_or xs k d) (h k d l)

pub some_to : {X : Type 0} (P Q : X → Type 0) (o : Option X) → ((x : X) → P x → Q x) → IfSome o P → IfSome o Q
some_to P Q None f h = tt
some_to P Q (Some x) f h = f x h

pub same_eqb : (m j : ℕ) → m ≡ j → (m == j) ≡ true
same_eqb m j e = grind (arith, e)

pub other_eqb : (m j : ℕ) → m ≢ j → (m == j) ≡ false
other_eqb m j e = grind (arith, e)

pub eqb_is : (m j : ℕ) → (m == j) ≡ true → m ≡ j
eqb_is m j e = grind (arith, e)

pub eqb_same : (m j : ℕ) → (m == j) ≡ false → m ≢ j
eqb_same m j e f = true≢false (sym (same_eqb m j f) ∙ e)

-- how often a chunk is in a list of chunks
abbrev pub chunk_count : ℕ → List Carved → ℕ
chunk_count k cs = count_by (λ (c : Carved). c.chunk == k) cs

pub chunk_permuted : (k : ℕ) (xs ys : List Carved) → IsPermutation xs ys → chunk_count k ys ≡ chunk_count k xs
chunk_permuted k xs ys p = sum_by-IsPermutation (λ (c : Carved). cond (c.chunk == k) 1 0) xs ys p

-- ---- bytes

more_than : (m z n : ℕ) → suc m * z ≤ n → z ≤ n
more_than m z n l = omega (arith, l, suc-mul m z)

rest_of : (m z : ℕ) (bs : List ℕ) → suc m * z ≤ length bs → m * z ≤ length (drop z bs)
rest_of m z bs l = omega (arith, l, suc-mul m z, length-drop z bs)

slots_fit : (c : ℕ) → slots_of c * size_of c ≤ chunk_size
slots_fit c = div-mul-le_self chunk_size (size_of c)

-- ---- Claim

module _ (names : List Carved) (v w : FloorState) (a class k : ℕ) (n : NamesByPlace names v) (s : DrawsChunk v a class k w) where
  abbrev new_chunk : Carved
  new_chunk = s.claims.drawn.drawn

  abbrev new_names : List Carved
  new_names = names ++ new_chunk ∷ []

  abbrev new_drawn : List DrawnChunk
  new_drawn = v.drawn ++ record { owner = a; class = class } ∷ []

  kept_name : (b : Buffer) → HasName names b → HasName new_names b
  kept_name b h = record { chunk = h.chunk; is_chunk = get_pushed names new_chunk h.chunk b.slot.chunk h.is_chunk; class = h.class; name = h.name; size = h.size }

  kept_home : (x : AtHome) → IsNamedHome names x → IsNamedHome new_names x
  kept_home (Kept b) h = kept_name b h
  kept_home (Fresh u) h = record { chunk = h.chunk; is_chunk = get_pushed names new_chunk h.chunk u.slot.chunk h.is_chunk; class = h.class; part = h.part; place = h.place; within = h.within; size = h.size; lies = h.lies }

  last_place : length names ≡ k
  last_place = n.count ∙ sym s.is_next

  uncut_named : (i m : ℕ) (bs : List ℕ) → i + m ≤ slots_of class → m * size_of class ≤ length bs → StandsAt bs (i * size_of class) new_chunk.rest
      → All (IsNamedHome new_names) (unused_from k class s.part.bytes.ghost_name m i bs)
  uncut_named i zero bs l fits lie = All-nil (IsNamedHome new_names)
  uncut_named i (suc m) bs l fits lie =
      let none : length new_chunk.taken ≡ 0 = ap length s.claims.drawn.uncut.none_taken in
      let ahead : i ≡ i - length new_chunk.taken = omega (arith, none) in
      let next : i * size_of class + size_of class ≡ (i + 1) * size_of class = (let e = suc-mul i (size_of class) in omega (arith, e)) in
      let long : size_of class ≤ length bs = more_than m (size_of class) (length bs) fits in
      let left : m * size_of class ≤ length (drop (size_of class) bs) = rest_of m (size_of class) bs fits in
      All-cons (IsNamedHome new_names) (Fresh (record { slot = record { chunk = k; index = i }; class = class; part = s.part.bytes.ghost_name; bytes = take (size_of class) bs })) _
      (record {
        chunk = new_chunk;
        is_chunk = subst (λ j. slice_get new_names j ≡ Some new_chunk) last_place (get_last names new_chunk);
        class = s.claims.drawn.uncut.class_is;
        part = s.claims.drawn.uncut.whole;
        place = subst (λ xs. length xs ≤ i) (sym s.claims.drawn.uncut.none_taken) (omega arith);
        within = omega (arith, l);
        size = length-take-le (size_of class) bs long;
        lies = subst (λ j. StandsAt (take (size_of class) bs) (j * size_of class) new_chunk.rest) ahead (stands_take (size_of class) (i * size_of class) bs new_chunk.rest lie);
      })
      (uncut_named (i + 1) m (drop (size_of class) bs) (omega (arith, l)) left
      (subst (λ p. StandsAt (drop (size_of class) bs) p new_chunk.rest) next (stands_drop (size_of class) (i * size_of class) bs new_chunk.rest lie)))

  -- all bytes of the part are left
  whole_rest : StandsAt s.part.bytes.now (0 * size_of class) new_chunk.rest
  whole_rest =
      let none : 0 ≡ 0 * size_of class = omega arith in
      subst (λ p. StandsAt s.part.bytes.now p new_chunk.rest) none
      (subst (λ bs. StandsAt s.part.bytes.now 0 bs) (sym s.claims.drawn.uncut.all_left) (stands_whole s.part.bytes.now))

  drew_last : (b : ℕ) → drew new_drawn b (length v.drawn) ≡ (a == b)
  drew_last b = ap (is_drawn_for b) (get_last v.drawn (record { owner = a; class = class }))

  drew_before : (b j : ℕ) → j ≢ length v.drawn → drew new_drawn b j ≡ drew v.drawn b j
  drew_before b j ne = ap (is_drawn_for b) (get_before v.drawn (record { owner = a; class = class }) j ne)

  drew_none : (b : ℕ) → drew v.drawn b (length v.drawn) ≡ false
  drew_none b = ap (is_drawn_for b) (slice_get_past v.drawn (length v.drawn) (omega arith))

  drew_kept : (b j : ℕ) → b ≢ a → drew new_drawn b j ≡ drew v.drawn b j
  drew_kept b j ne = ⊎_elim
      (λ (same : _ × (j ≡ length v.drawn)). ap (drew new_drawn b) same.1 ∙ (drew_last b ∙ (other_eqb a b (λ e. ne (sym e)) ∙ sym (ap (drew v.drawn b) same.1 ∙ drew_none b))))
      (λ (other : _ × (j ≢ length v.drawn)). drew_before b j other.1) (eqb_tells j (length v.drawn))

  kept_same : (c : Carved) → slice_get names c.chunk ≡ Some c → slice_get new_names c.chunk ≡ Some c
  kept_same c e = get_pushed names new_chunk c c.chunk e

  other_desk : (b : ℕ) (x : AnyDeskState) → b ≢ a → IsNamedDesk names v.drawn b x → IsNamedDesk new_names new_drawn b x
  other_desk b x ne h = record {
    home = All-to (IsNamedHome names) (IsNamedHome new_names) (home_of x) kept_home h.home;
    cached = All-to (HasName names) (HasName new_names) (cached_of x) kept_name h.cached;
    same = All-to (λ (c : Carved). slice_get names c.chunk ≡ Some c) (λ (c : Carved). slice_get new_names c.chunk ≡ Some c) (chunks_of x) kept_same h.same;
    once = λ j. h.once j ∙ ap one_if (sym (drew_kept b j ne));
  }

  new_chunk_is : new_chunk.chunk ≡ k
  new_chunk_is = s.claims.drawn.uncut.chunk ∙ s.is_part

  claimed_once : (j : ℕ) → chunk_count j s.after.drawn ≡ one_if (drew new_drawn a j)
  claimed_once j =
      let h = held_named names v n a s.before s.held in
      let e : chunk_count j s.after.drawn ≡ cond (new_chunk.chunk == j) 1 0 + one_if (drew v.drawn a j) =
      chunk_permuted j _ _ s.claims.drawn.added ∙ (count_cons (λ (c : Carved). c.chunk == j) new_chunk s.before.drawn ∙ ap (λ m. cond (new_chunk.chunk == j) 1 0 + m) (h.once j)) in
      e ∙ ⊎_elim
      (λ (same : _ × (j ≡ length v.drawn)).
      ap₂ (λ (x y : Bool). cond x 1 0 + one_if y) (same_eqb new_chunk.chunk j (new_chunk_is ∙ (s.is_next ∙ sym same.1))) (ap (drew v.drawn a) same.1 ∙ drew_none a)
      ∙ sym (ap one_if (ap (drew new_drawn a) same.1 ∙ (drew_last a ∙ same_eqb a a refl))))
      (λ (other : _ × (j ≢ length v.drawn)).
      ap (λ (x : Bool). cond x 1 0 + one_if (drew v.drawn a j)) (other_eqb new_chunk.chunk j (λ q. other.1 (sym q ∙ (new_chunk_is ∙ s.is_next))))
      ∙ (omega arith ∙ ap one_if (sym (drew_before a j other.1)))) (eqb_tells j (length v.drawn))

  claimed_desk : IsNamedDesk new_names new_drawn a (Held s.after)
  claimed_desk =
      let h = held_named names v n a s.before s.held in
      let slots : IsPermutation (unused_from k class s.part.bytes.ghost_name (slots_of class) 0 s.part.bytes.now ++ s.before.home) s.after.home =
      subst (λ m. IsPermutation (unused_from m class s.part.bytes.ghost_name (slots_of class) 0 s.part.bytes.now ++ s.before.home) s.after.home) s.is_part s.claims.home in
      record {
        home = All-permutation (IsNamedHome new_names) _ _ slots
            (All-append (IsNamedHome new_names) _ s.before.home (uncut_named 0 (slots_of class) s.part.bytes.now (omega arith) (subst (λ n. slots_of class * size_of class ≤ n) (sym s.part.is_whole) (slots_fit class)) whole_rest) (All-to (IsNamedHome names) (IsNamedHome new_names) s.before.home kept_home h.home));
        cached = subst (λ bs. All (HasName new_names) bs) (ap (λ (x : DeskState). x.cached) (sym s.claims.same)) (All-to (HasName names) (HasName new_names) s.before.cached kept_name h.cached);
        same = All-permutation (λ (c : Carved). slice_get new_names c.chunk ≡ Some c) _ _ s.claims.drawn.added
            (All-cons (λ (c : Carved). slice_get new_names c.chunk ≡ Some c) new_chunk s.before.drawn
            (ap (slice_get new_names) (new_chunk_is ∙ sym last_place) ∙ get_last names new_chunk)
            (All-to (λ (c : Carved). slice_get names c.chunk ≡ Some c) (λ (c : Carved). slice_get new_names c.chunk ≡ Some c) s.before.drawn kept_same h.same));
        once = claimed_once;
      }

  last_named : (j : ℕ) → j ≡ length names → IsNamedChunk v.parts new_drawn j new_chunk
  last_named j same = record {
    number = new_chunk_is ∙ sym (same ∙ last_place);
    class = ap (λ m. option_map (λ (d : DrawnChunk). d.class) (slice_get new_drawn m)) (same ∙ n.count)
        ∙ (ap (option_map (λ (d : DrawnChunk). d.class)) (get_last v.drawn (record { owner = a; class = class })) ∙ ap (λ m. Some m) (sym s.claims.drawn.uncut.class_is));
    part = ap (slice_get v.parts) (same ∙ last_place) ∙ (s.has_name ∙ ap (λ g. Some g) (sym s.claims.drawn.uncut.whole));
    few = subst (λ xs. length xs ≤ slots_of new_chunk.class) (sym s.claims.drawn.uncut.none_taken) (omega arith);
    whole = subst (λ xs. length xs * size_of new_chunk.class + length new_chunk.rest ≡ chunk_size) (sym s.claims.drawn.uncut.none_taken)
        (let left : length new_chunk.rest ≡ length s.part.bytes.now = ap length s.claims.drawn.uncut.all_left in let all = s.part.is_whole in omega (arith, left, all));
  }

  claimed_chunks : (j : ℕ) (c : Carved) → slice_get new_names j ≡ Some c → IsNamedChunk v.parts new_drawn j c
  claimed_chunks j c e = ⊎_elim
      (λ (same : _ × (j ≡ length names)).
      subst (IsNamedChunk v.parts new_drawn j) (some_is new_chunk c (sym (get_last names new_chunk) ∙ (ap (slice_get new_names) (sym same.1) ∙ e))) (last_named j same.1))
      (λ (other : _ × (j ≢ length names)).
      let h = n.chunks j c (sym (get_before names new_chunk j other.1) ∙ e) in
      let r : IsNamedChunk v.parts new_drawn j c = record {
        number = h.number;
        class = ap (option_map (λ (d : DrawnChunk). d.class)) (get_before v.drawn (record { owner = a; class = class }) j (λ q. other.1 (q ∙ sym n.count))) ∙ h.class;
        part = h.part;
        few = h.few;
        whole = h.whole;
      } in r) (eqb_tells j (length names))

  each_claimed : (b : ℕ) → b < length (set v.desks a (Held s.after)) → IsNamedDesk new_names new_drawn b (get_or (set v.desks a (Held s.after)) b no_desk)
  each_claimed b m = ⊎_elim
      (λ (same : _ × (b ≡ a)). rw same.1 (rw (get_or-set_same v.desks a (Held s.after) no_desk s.held.0) claimed_desk))
      (λ (other : _ × (b ≢ a)). rw (get_or-set_other v.desks a b (Held s.after) no_desk other.1)
      (other_desk b (desk_at v b) other.1 (n.desks b (rw (length-set v.desks a (Held s.after)) at m)))) (eqb_tells b a)

  pub claim_named : NamesByPlace new_names w
  claim_named = subst (NamesByPlace new_names) (sym s.same) (record {
    count = length_push names new_chunk ∙ (ap (λ m. m + 1) n.count ∙ sym (length_push v.drawn (record { owner = a; class = class })));
    chunks = claimed_chunks;
    desks = each_claimed;
    lent = λ i. some_to (HasName names) (HasName new_names) (get_or v.lent i None) kept_name (n.lent i);
    queued = λ b. All-to (λ (p : QueuedState). All (HasName names) p.buffers) (λ (p : QueuedState). All (HasName new_names) p.buffers) (inbox_at v.inboxes b)
        (λ p h. All-to (HasName names) (HasName new_names) p.buffers kept_name h) (n.queued b);
  })
