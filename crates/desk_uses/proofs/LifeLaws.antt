-- What is known of a desk's only chunk once its buffers are let go.
use Rattle.std.proofs.Common.{◌≡◌, ℕ, zero, suc, ◌+◌, ◌<◌, ◌≤◌, Bool, true, false, List, [], ◌∷◌, ◌++◌, map, length, drop, replicate, flat_map, All, IsPermutation, refl, sym, ap, ◌∙◌, subst, arith}
use Rattle.std.specs.Borrow.{GName}
use Rattle.std.specs.List.{Contains}
use Rattle.std.proofs.lemmas.List.Elements.{All-nil, All-cons, All-head, All-tail, All-append, All-contains, All-contains_itself, Contains-append_left}
use Rattle.std.proofs.lemmas.List.{append-nil, drop_at, length-map, get_or-map}
use Rattle.std.specs.Prelude.{Ok}
use Rattle.std.proofs.lemmas.List.Sorted.{IsPermutation-sym, length_permutation, All-permutation, Contains-permutation}
use Rattle.region_cut.specs.Carved.{Carved}
use Rattle.region_cut.specs.Classes.{size_of, slots_of, classes_of, IsLeastFor}
use Rattle.region_cut.specs.Endings.{Ended, IsKnown, name_at, end_in, Agrees, HasKnownSlots, ended_chunk}
use Rattle.region_cut.specs.Parts.{name_of, bytes_of}
use Rattle.region_cut.specs.declared.profile.Profile.{Profile}
use Rattle.region_cut.specs.declared.part.Part.{Part}
use Rattle.slot_chain.specs.Buffer.{Buffer, ended_of}
use Rattle.pool_desk.specs.Desks.{DeskState}
use Rattle.pool_desk.specs.Homes.{AtHome, kept_in, unused_from, IsUnused, Names, GivesOne, taken_next}
use Rattle.pool_desk.specs.Homes.AtHome.{Kept, Fresh}
use Rattle.pool_desk.specs.Steps.{Claims, Allocs, Frees, freed}
use Rattle.pool_desk.specs.declared.freed.Freed.{Freed}
use Rattle.pool_desk.specs.declared.freed.Freed.TheVariants.{Home, Cached, Due}
use Rattle.desk_uses.specs.Used.{filled, HasGiven, IsUsed}

module _ {X : Type 0} where
  head_same : (x y : X) (xs ys : List X) → x ∷ xs ≡ y ∷ ys → x ≡ y
  head_same x y xs ys e = ap (λ (l : List X). elim l as (λ _. X) [ [] ↦ x | z ∷ zs ↦ z ]) e

  tail_same : (x y : X) (xs ys : List X) → x ∷ xs ≡ y ∷ ys → xs ≡ ys
  tail_same x y xs ys e = ap (drop 1) e

  -- a list of one can only be put in order as it is
  pub one_perm : (x : X) (ys : List X) → IsPermutation (x ∷ []) ys → ys ≡ x ∷ []
  one_perm x [] p = absurd (let e = length_permutation (x ∷ []) [] p in omega (arith, e))
  one_perm x (y ∷ []) p =
      ap (λ z. z ∷ []) (All-head (λ z. z ≡ x) y [] (All-permutation (λ z. z ≡ x) (x ∷ []) (y ∷ []) p (All-cons (λ z. z ≡ x) x [] refl (All-nil (λ z. z ≡ x)))))
  one_perm x (y ∷ z ∷ zs) p = absurd (let e = length_permutation (x ∷ []) (y ∷ z ∷ zs) p in omega (arith, e))

-- a chunk that was just drawn has slots alone that were never handed out
pub all_unused : (chunk class : ℕ) (part : GName) (n i : ℕ) (bytes : List ℕ) → All IsUnused (unused_from chunk class part n i bytes)
all_unused chunk class part zero i bytes = All-nil IsUnused
all_unused chunk class part (suc n) i bytes = All-cons IsUnused _ _ tt (all_unused chunk class part n (i + 1) _)

abbrev KeptIs : (Buffer → Type 0) → AtHome → Type 0
KeptIs K (Kept b) = K b
KeptIs K (Fresh u) = Unit {0}

kept_each : (K : Buffer → Type 0) (hs : List AtHome) → All K (kept_in hs) → All (KeptIs K) hs
kept_each K [] h = All-nil (KeptIs K)
kept_each K (Kept b ∷ hs) h = All-cons (KeptIs K) (Kept b) hs (All-head K b (kept_in hs) h) (kept_each K hs (All-tail K b (kept_in hs) h))
kept_each K (Fresh u ∷ hs) h = All-cons (KeptIs K) (Fresh u) hs tt (kept_each K hs h)

-- a buffer at home is among the buffers at home
pub kept_there : (hs : List AtHome) (b : Buffer) → Contains hs (Kept b) → Contains (kept_in hs) b
kept_there hs b there = All-contains (KeptIs (Contains (kept_in hs))) hs (Kept b) (kept_each (Contains (kept_in hs)) hs (All-contains_itself (kept_in hs))) there

-- the first slot that a desk gives of its only chunk
module _ (b : Buffer) (old new : List Carved) (c : Carved) (is : old ≡ c ∷ []) where
  abbrev pub GivesFirst : Type 0
  GivesFirst = (rest : List ℕ) × (new ≡ taken_next c b.bytes.ghost_name rest ∷ []) × (c.rest ≡ b.bytes.now ++ rest)

  from_fresh : (from : AtHome) → IsUnused from → Names from b old new → GivesFirst
  from_fresh (Kept a) none n = absurd none
  from_fresh (Fresh u) unused n =
      let only = one_perm c (n.from ∷ n.others) (subst (λ (l : List Carved). IsPermutation l (n.from ∷ n.others)) is n.before) in
      let first : n.from ≡ c = head_same n.from c n.others [] only in
      let others : n.others ≡ [] = tail_same n.from c n.others [] only in
      let after = one_perm (taken_next n.from b.bytes.ghost_name n.rest) new
      (IsPermutation-sym new (taken_next n.from b.bytes.ghost_name n.rest ∷ []) (subst (λ (l : List Carved). IsPermutation new (taken_next n.from b.bytes.ghost_name n.rest ∷ l)) others n.after)) in
      (n.rest, after ∙ ap (λ (k : Carved). taken_next k b.bytes.ghost_name n.rest ∷ []) first, ap (λ (k : Carved). k.rest) (sym first) ∙ n.left)

  pub gives_first : (owner class : ℕ) (home home' : List AtHome) → All IsUnused home → GivesOne owner class home b home' old new → GivesFirst
  gives_first owner class home home' unused g =
      from_fresh g.from (All-head IsUnused g.from home' (All-permutation IsUnused home (g.from ∷ home') g.others unused)) g.names

-- a slot of the least class for 16 bytes has just these
size_16 : (p : Profile) (c : ℕ) → IsLeastFor p 16 c → size_of c ≡ 16
size_16 p c l =
    let some : 0 < classes_of p = (let u = l.is_used in omega (arith, u)) in
    let least : c ≤ 0 = l.is_least 0 (omega arith) some in
    let first : c ≡ 0 = omega (arith, least) in
    ap size_of first

-- an own buffer goes home, and nothing else of the desk changes
goes_home : (d : DeskState) (b : Buffer) (f : Freed) (new : DeskState) → b.owner ≡ d.number → Frees d b f new
    → IsPermutation (Kept (freed b) ∷ d.home) new.home × (new ≡ record d { home = new.home })
goes_home d b Home new own h = (h.2, h.1)
goes_home d b Cached new own h = absurd (h.0.0 own)
goes_home d b Due new own h = absurd (h.0.0 own)

-- a desk that has drawn nothing but this part
module _ (x : ℕ) (p : Part) (d0 d1 : DeskState) (no_home : d0.home ≡ []) (no_chunk : d0.drawn ≡ []) (claims : Claims d0 p 0 d1) where
  only_one : d1.drawn ≡ claims.drawn.drawn ∷ []
  only_one = one_perm claims.drawn.drawn d1.drawn (subst (λ (l : List Carved). IsPermutation (claims.drawn.drawn ∷ l) d1.drawn) no_chunk claims.drawn.added)

  new_slots : All IsUnused d1.home
  new_slots =
      let fresh = unused_from p.chunk 0 p.bytes.ghost_name (slots_of 0) 0 p.bytes.now in
      All-permutation IsUnused (fresh ++ d0.home) d1.home claims.home
      (All-append IsUnused fresh d0.home (all_unused p.chunk 0 p.bytes.ghost_name (slots_of 0) 0 p.bytes.now) (subst (All IsUnused) (sym no_home) (All-nil IsUnused)))

  pub none_used : IsUsed false x p d1
  none_used = record {
    chunk = claims.drawn.drawn;
    drawn = only_one;
    whole = claims.drawn.uncut.whole;
    slots = (claims.drawn.uncut.none_taken, claims.drawn.uncut.all_left);
  }

  pub used_once : (d2 d3 : DeskState) (b b' : Buffer) (f : Freed) → Allocs d1 16 (Ok b) d2 → length b.bytes.now ≡ size_of b.class
      → b' ≡ record b { bytes = record b.bytes { now = replicate (size_of b.class) x } } → Frees d2 b' f d3 → IsUsed true x p d3
  used_once d2 d3 b b' f given size written frees =
      let c = claims.drawn.drawn in
      let first = gives_first b d1.drawn d2.drawn c only_one d1.number b.class d1.home d2.home new_slots given.1 in
      let number : d2.number ≡ d1.number = ap (λ (d : DeskState). d.number) given.2 in
      let owner : b'.owner ≡ d2.number = ap (λ (k : Buffer). k.owner) written ∙ given.1.owner_is ∙ sym number in
      let home = goes_home d2 b' f d3 owner frees in
      let sixteen : size_of b.class ≡ 16 = size_16 _ b.class given.0 in
      let name : b'.bytes.ghost_name ≡ b.bytes.ghost_name = ap (λ (k : Buffer). k.bytes.ghost_name) written in
      let left : drop 16 p.bytes.now ≡ first.0 =
      ap (drop 16) (sym claims.drawn.uncut.all_left ∙ first.2) ∙ drop_at b.bytes.now first.0 16 (size ∙ sixteen) in
      record {
        chunk = taken_next c b.bytes.ghost_name first.0;
        drawn = ap (λ (d : DeskState). d.drawn) home.1 ∙ first.1;
        whole = claims.drawn.uncut.whole;
        slots = (
          freed b',
          Contains-permutation (Kept (freed b') ∷ d2.home) d3.home (Kept (freed b')) home.0 (0, omega arith, refl),
          ap (λ (ts : List GName). ts ++ b.bytes.ghost_name ∷ []) claims.drawn.uncut.none_taken ∙ ap (λ (n : GName). n ∷ []) (sym name),
          ap (λ (k : Buffer). k.bytes.now) written ∙ ap (λ n. replicate n x) sixteen,
          sym left,
        );
      }

there_mapped : {X Y : Type 0} (f : X → Y) (xs : List X) (x : X) → Contains xs x → Contains (map f xs) (f x)
there_mapped f xs x there =
    (there.0, subst (λ (n : ℕ). there.0 < n) (sym (length-map xs f)) there.1, get_or-map f xs there.0 x (f x) there.1 ∙ ap f there.2)

-- the buffers at home are let go with the desk
pub let_go : (home : List AtHome) (cached : List Buffer) (old known : List Ended) → IsPermutation (map ended_of (kept_in home ++ cached) ++ old) known
    → (b : Buffer) → Contains home (Kept b) → Contains known (ended_of b)
let_go home cached old known all b there =
    Contains-permutation (map ended_of (kept_in home ++ cached) ++ old) known (ended_of b) all
    (Contains-append_left (map ended_of (kept_in home ++ cached)) old (ended_of b)
    (there_mapped ended_of (kept_in home ++ cached) b (Contains-append_left (kept_in home) cached b (kept_there home b there))))

pub here : (ks es : List Ended) (e : Ended) → ks ≡ e ∷ es → Contains ks e
here ks es e is = subst (λ (z : List Ended). Contains z e) (sym is) (0, omega arith, refl)

-- what is known of the chunk once the buffers of its desk were let go
module _ (known : List Ended) (one : Agrees known) (x : ℕ) (p : Part) where
  noted : (b : Buffer) → Contains known (ended_of b) → IsKnown known b.bytes.ghost_name
  noted b there = there_mapped name_at known (ended_of b) there

  ends_so : (b : Buffer) → Contains known (ended_of b) → end_in known b.bytes.ghost_name ≡ b.bytes.now
  ends_so b there = subst (λ (e : Ended). end_in known e.name ≡ e.bytes) there.2 (one there.0 (ended_of b) there.1)

  module _ (home : List AtHome) (gone : (b : Buffer) → Contains home (Kept b) → Contains known (ended_of b)) (c : Carved) where
    pub slots_known : (given : Bool) → HasGiven given x p home c → HasKnownSlots known c
    slots_known true s = subst (All (IsKnown known)) (sym s.2) (All-cons (IsKnown known) s.0.bytes.ghost_name [] (noted s.0 (gone s.0 s.1)) (All-nil (IsKnown known)))
    slots_known false s = subst (All (IsKnown known)) (sym s.0) (All-nil (IsKnown known))

    pub chunk_ends : (given : Bool) → c.whole ≡ name_of p → HasGiven given x p home c
        → ended_chunk known c ≡ record { name = name_of p; bytes = filled given x (bytes_of p) }
    chunk_ends true whole s =
        ap (λ (n : GName). record { name = n; bytes = flat_map (end_in known) c.taken ++ c.rest }) whole
        ∙ (ap (λ (ts : List GName). record { name = name_of p; bytes = flat_map (end_in known) ts ++ c.rest }) s.2
        ∙ (ap (λ (bs : List ℕ). record { name = name_of p; bytes = (bs ++ []) ++ c.rest }) (ends_so s.0 (gone s.0 s.1) ∙ s.3)
        ∙ (ap (λ (bs : List ℕ). record { name = name_of p; bytes = bs ++ c.rest }) (append-nil (replicate 16 x))
        ∙ ap (λ (bs : List ℕ). record { name = name_of p; bytes = replicate 16 x ++ bs }) s.4)))
    chunk_ends false whole s =
        ap (λ (n : GName). record { name = n; bytes = flat_map (end_in known) c.taken ++ c.rest }) whole
        ∙ (ap (λ (ts : List GName). record { name = name_of p; bytes = flat_map (end_in known) ts ++ c.rest }) s.0
        ∙ ap (λ (bs : List ℕ). record { name = name_of p; bytes = bs }) s.1)
