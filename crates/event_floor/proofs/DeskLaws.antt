-- A desk stays one of its floor, whatever its calls do.
use Rattle.std.proofs.Common.{◌≡◌, ℕ, zero, suc, ◌+◌, ◌<◌, ◌≤◌, Bool, true, false, List, [], ◌∷◌, ◌++◌, refl, sym, ap, ◌∙◌, subst, arith, All, drop, map, get_or, not, ◌==◌, ⊎_elim}
use Rattle.std.specs.Prelude.{Ok, ◌&&◌, nat_le}
use Rattle.std.specs.Borrow.{GName}
use Rattle.std.proofs.lemmas.Bool.{leb-true}
use Rattle.std.proofs.lemmas.Bool.Decides.{eqb_tells}
use Rattle.std.proofs.lemmas.List.Elements.{All-append, All-cons, All-nil, All-map, All-filter}
use Rattle.std.proofs.lemmas.List.Sorted.{All-permutation}
use Rattle.std.proofs.lemmas.List.{get_or_append_left, length-append}
use Rattle.region_cut.specs.Classes.{size_of, slots_of, class_count}
use Rattle.region_cut.specs.declared.part.Part.{Part}
use Rattle.slot_chain.specs.Buffer.{Buffer}
use Rattle.digit_route.specs.Digits.{Scheme}
use Rattle.digit_route.specs.States.{BatchState}
use Rattle.digit_route.specs.Route.{GivesBucket as Routed}
use Rattle.pool_desk.specs.Homes.{AtHome, comes_home, unused_from, slot_at}
use Rattle.pool_desk.specs.Homes.{GivenAs}
use Rattle.pool_desk.specs.Homes.AtHome.{Kept, Fresh}
use Rattle.pool_desk.specs.Desks.{DeskState}
use Rattle.pool_desk.specs.Steps.{Claims, Allocs, Frees, Caches, Handles, freed, passed_on, own, others}
use Rattle.pool_desk.specs.declared.freed.Freed.{Freed}
use Rattle.pool_desk.specs.declared.freed.Freed.TheVariants.{Home, Cached, Due}
use Rattle.event_floor.specs.Desks.AnyDeskState.{Idle, Held}
use Rattle.event_floor.specs.Desks.{AnyDeskState, IsNumbered, HasPlace, Releases}
use Rattle.event_floor.specs.Floors.{FitsFloor, IsDeskOf}

-- a test holds of each number below n
abbrev all_below : (ℕ → Bool) → ℕ → Bool
all_below p zero = true
all_below p (suc n) = p n && all_below p n

and_left : (a b : Bool) → (a && b) ≡ true → a ≡ true
and_left true b e = refl
and_left false b e = e

and_right : (a b : Bool) → (a && b) ≡ true → b ≡ true
and_right true b e = e
and_right false b e = absurd (cc)

at_each : (p : ℕ → Bool) (n k : ℕ) → all_below p n ≡ true → k < n → p k ≡ true
at_each p zero k e l = absurd (omega (arith, l))
at_each p (suc n) k e l =
    ⊎_elim (λ (same : _ × (k ≡ n)). rw same.1 (and_left (p n) (all_below p n) e))
    (λ (other : _). let ne = other.1 in at_each p n k (and_right (p n) (all_below p n) e) (omega (arith, l, ne))) (eqb_tells k n)

-- a chunk has at most 256 slots
few_slots : (class : ℕ) → class < class_count → slots_of class ≤ 256
few_slots class l = leb-true (slots_of class) 256 (at_each (λ k. nat_le (slots_of k) 256) class_count class refl l)

unused_places : (chunks chunk class : ℕ) (part : GName) (n i : ℕ) (bs : List ℕ) → chunk < chunks → i + n ≤ 256 → All (HasPlace chunks) (unused_from chunk class part n i bs)
unused_places chunks chunk class part zero i bs l m = All-nil _
unused_places chunks chunk class part (suc n) i bs l m =
    All-cons (HasPlace chunks) _ _ (l, omega (arith, m)) (unused_places chunks chunk class part n (i + 1) (drop (size_of class) bs) l (omega (arith, m)))

pub head_of : {X : Type 0} (P : X → Type 0) (x : X) (xs : List X) → All P (x ∷ xs) → P x
head_of P x xs h = h 0 x (omega arith)

pub tail_of : {X : Type 0} (P : X → Type 0) (x : X) (xs : List X) → All P (x ∷ xs) → All P xs
tail_of P x xs h = λ k d l. h (suc k) d (omega (arith, l))

all_left : {X : Type 0} (P : X → Type 0) (xs ys : List X) → All P (xs ++ ys) → All P xs
all_left P xs ys h = λ k d l. rw (← get_or_append_left xs ys d k l) (h k d (let e = length-append xs ys in omega (arith, l, e)))

all_right : {X : Type 0} (P : X → Type 0) (xs ys : List X) → All P (xs ++ ys) → All P ys
all_right P [] ys h = h
all_right P (x ∷ xs) ys h = all_right P xs ys (tail_of P x (xs ++ ys) h)

same_slot : (s : AtHome) (b : Buffer) → GivenAs s b → b.slot ≡ slot_at s
same_slot (Kept a) b g = ap (λ (z : Buffer). z.slot) g
same_slot (Fresh u) b g = g.0

-- the desk keeps its number, its limit and its digits
numbered_as : (digits : Scheme) (limit a : ℕ) (d d' : DeskState) → IsNumbered digits limit a (Held d)
    → d'.number ≡ d.number → d'.limit ≡ d.limit → d'.digits ≡ d.digits → IsNumbered digits limit a (Held d')
numbered_as digits limit a d d' n number bytes reads = (number ∙ n.0, bytes ∙ n.1, reads ∙ n.2)

numbered_drawn : (digits : Scheme) (limit a : ℕ) (d d' : DeskState) → IsNumbered digits limit a (Held d)
    → d' ≡ record d { home = d'.home; drawn = d'.drawn } → IsNumbered digits limit a (Held d')
numbered_drawn digits limit a d d' n same =
    numbered_as digits limit a d d' n (ap (λ (z : DeskState). z.number) same) (ap (λ (z : DeskState). z.limit) same) (ap (λ (z : DeskState). z.digits) same)

numbered_home : (digits : Scheme) (limit a : ℕ) (d d' : DeskState) → IsNumbered digits limit a (Held d)
    → d' ≡ record d { home = d'.home } → IsNumbered digits limit a (Held d')
numbered_home digits limit a d d' n same =
    numbered_as digits limit a d d' n (ap (λ (z : DeskState). z.number) same) (ap (λ (z : DeskState). z.limit) same) (ap (λ (z : DeskState). z.digits) same)

numbered_cached : (digits : Scheme) (limit a : ℕ) (d d' : DeskState) → IsNumbered digits limit a (Held d)
    → d' ≡ record d { cached = d'.cached } → IsNumbered digits limit a (Held d')
numbered_cached digits limit a d d' n same =
    numbered_as digits limit a d d' n (ap (λ (z : DeskState). z.number) same) (ap (λ (z : DeskState). z.limit) same) (ap (λ (z : DeskState). z.digits) same)

-- what the floor knows of a buffer rests neither on its count of forwards nor on what is filled
pub known_freed : (n chunks : ℕ) (b : Buffer) → FitsFloor n chunks b → FitsFloor n chunks (freed b)
known_freed n chunks b k = record { owner = k.owner; chunk = k.chunk; index = k.index }

known_passed_on : (n chunks : ℕ) (b : Buffer) → FitsFloor n chunks b → FitsFloor n chunks (passed_on b)
known_passed_on n chunks b k = record { owner = k.owner; chunk = k.chunk; index = k.index }

-- the cache, or the slots at home, are the same
same_cached : (n chunks : ℕ) (xs ys : List Buffer) → ys ≡ xs → All (FitsFloor n chunks) xs → All (FitsFloor n chunks) ys
same_cached n chunks xs ys e h = subst (λ z. All (FitsFloor n chunks) z) (sym e) h

same_home : (chunks : ℕ) (xs ys : List AtHome) → ys ≡ xs → All (HasPlace chunks) xs → All (HasPlace chunks) ys
same_home chunks xs ys e h = subst (λ z. All (HasPlace chunks) z) (sym e) h

pub claim_keeps : (digits : Scheme) (limit n chunks a class : ℕ) (part : Part) (d d' : DeskState) → IsDeskOf digits limit n chunks a (Held d)
    → class < class_count → part.chunk < chunks → Claims d part class d' → IsDeskOf digits limit n chunks a (Held d')
claim_keeps digits limit n chunks a class part d d' h l m c = record {
  numbered = numbered_drawn digits limit a d d' h.numbered c.same;
  placed = All-permutation (HasPlace chunks) _ d'.home c.home
      (All-append (HasPlace chunks) (unused_from part.chunk class part.bytes.ghost_name (slots_of class) 0 part.bytes.now) d.home
      (unused_places chunks part.chunk class part.bytes.ghost_name (slots_of class) 0 part.bytes.now m (let m = few_slots class l in omega (arith, m))) h.placed);
  known = same_cached n chunks d.cached d'.cached (ap (λ (z : DeskState). z.cached) c.same) h.known;
}

pub alloc_keeps : (digits : Scheme) (limit n chunks a size : ℕ) (d d' : DeskState) (b : Buffer) → IsDeskOf digits limit n chunks a (Held d)
    → Allocs d size (Ok b) d' → IsDeskOf digits limit n chunks a (Held d')
alloc_keeps digits limit n chunks a size d d' b h s = record {
  numbered = numbered_drawn digits limit a d d' h.numbered s.2;
  placed = tail_of (HasPlace chunks) s.1.from d'.home (All-permutation (HasPlace chunks) d.home (s.1.from ∷ d'.home) s.1.others h.placed);
  known = same_cached n chunks d.cached d'.cached (ap (λ (z : DeskState). z.cached) s.2) h.known;
}

-- the buffer given out has a place
pub alloc_placed : (digits : Scheme) (limit n chunks a size : ℕ) (d d' : DeskState) (b : Buffer) → IsDeskOf digits limit n chunks a (Held d)
    → Allocs d size (Ok b) d' → (b.slot.chunk < chunks) × (b.slot.index < 256)
alloc_placed digits limit n chunks a size d d' b h s =
    rw (same_slot s.1.from b s.1.gives)
    (head_of (HasPlace chunks) s.1.from d'.home (All-permutation (HasPlace chunks) d.home (s.1.from ∷ d'.home) s.1.others h.placed))

caches_keeps : (digits : Scheme) (limit n chunks a : ℕ) (d d' : DeskState) (b : Buffer) → IsDeskOf digits limit n chunks a (Held d)
    → FitsFloor n chunks b → Caches d b d' → IsDeskOf digits limit n chunks a (Held d')
caches_keeps digits limit n chunks a d d' b h k s = record {
  numbered = numbered_cached digits limit a d d' h.numbered s.1;
  placed = same_home chunks d.home d'.home (ap (λ (z : DeskState). z.home) s.1) h.placed;
  known = All-permutation (FitsFloor n chunks) (freed b ∷ d.cached) d'.cached s.2 (All-cons (FitsFloor n chunks) (freed b) d.cached (known_freed n chunks b k) h.known);
}

pub free_keeps : (digits : Scheme) (limit n chunks a : ℕ) (d d' : DeskState) (b : Buffer) (f : Freed) → IsDeskOf digits limit n chunks a (Held d)
    → FitsFloor n chunks b → Frees d b f d' → IsDeskOf digits limit n chunks a (Held d')
free_keeps digits limit n chunks a d d' b Home h k s = record {
  numbered = numbered_home digits limit a d d' h.numbered s.1;
  placed = All-permutation (HasPlace chunks) (Kept (freed b) ∷ d.home) d'.home s.2 (All-cons (HasPlace chunks) (Kept (freed b)) d.home (k.chunk, k.index) h.placed);
  known = same_cached n chunks d.cached d'.cached (ap (λ (z : DeskState). z.cached) s.1) h.known;
}
free_keeps digits limit n chunks a d d' b Cached h k s = caches_keeps digits limit n chunks a d d' b h k s.0
free_keeps digits limit n chunks a d d' b Due h k s = caches_keeps digits limit n chunks a d d' b h k s.0

-- the buffers of a batch that the desk gives are known, and so are those that it keeps
given_known : (n chunks : ℕ) (s : Scheme) (a : ℕ) (old : List Buffer) (b : BatchState) (new : List Buffer) → All (FitsFloor n chunks) old → Routed s a old b new
    → All (FitsFloor n chunks) (b.items ++ new)
given_known n chunks s a old b new h g = All-permutation (FitsFloor n chunks) old (b.items ++ new) g.taken.together h

pub batch_known : (n chunks : ℕ) (s : Scheme) (a : ℕ) (old : List Buffer) (b : BatchState) (new : List Buffer) → All (FitsFloor n chunks) old → Routed s a old b new
    → All (FitsFloor n chunks) b.items
batch_known n chunks s a old b new h g = all_left (FitsFloor n chunks) b.items new (given_known n chunks s a old b new h g)

pub send_keeps : (digits : Scheme) (limit n chunks a : ℕ) (d d' : DeskState) (s : Scheme) (x : ℕ) (b : BatchState) → IsDeskOf digits limit n chunks a (Held d)
    → d' ≡ record d { cached = d'.cached } → Routed s x d.cached b d'.cached → IsDeskOf digits limit n chunks a (Held d')
send_keeps digits limit n chunks a d d' s x b h same g = record {
  numbered = numbered_cached digits limit a d d' h.numbered same;
  placed = same_home chunks d.home d'.home (ap (λ (z : DeskState). z.home) same) h.placed;
  known = all_right (FitsFloor n chunks) b.items d'.cached (given_known n chunks s x d.cached b d'.cached h.known g);
}

kept_placed : (n chunks : ℕ) (bs : List Buffer) → All (FitsFloor n chunks) bs → All (HasPlace chunks) (map comes_home bs)
kept_placed n chunks bs h = All-map (HasPlace chunks) comes_home bs (λ k d l. let e = h k d l in (e.chunk, e.index))

passed_known : (n chunks : ℕ) (bs : List Buffer) → All (FitsFloor n chunks) bs → All (FitsFloor n chunks) (map passed_on bs)
passed_known n chunks bs h = All-map (FitsFloor n chunks) passed_on bs (λ k d l. known_passed_on n chunks (get_or bs k d) (h k d l))

pub handle_keeps : (digits : Scheme) (limit n chunks a : ℕ) (d d' : DeskState) (bs : List Buffer) → IsDeskOf digits limit n chunks a (Held d)
    → All (FitsFloor n chunks) bs → Handles d bs d' → IsDeskOf digits limit n chunks a (Held d')
handle_keeps digits limit n chunks a d d' bs h k s = record {
  numbered = numbered_as digits limit a d d' h.numbered (ap (λ (z : DeskState). z.number) s.same) (ap (λ (z : DeskState). z.limit) s.same) (ap (λ (z : DeskState). z.digits) s.same);
  placed = All-permutation (HasPlace chunks) (map comes_home (own d.number bs) ++ d.home) d'.home s.home
      (All-append (HasPlace chunks) (map comes_home (own d.number bs)) d.home
      (kept_placed n chunks (own d.number bs) (All-filter (λ (b : Buffer). b.owner == d.number) (FitsFloor n chunks) bs k)) h.placed);
  known = All-permutation (FitsFloor n chunks) (map passed_on (others d.number bs) ++ d.cached) d'.cached s.cached
      (All-append (FitsFloor n chunks) (map passed_on (others d.number bs)) d.cached
      (passed_known n chunks (others d.number bs) (All-filter (λ (b : Buffer). not (b.owner == d.number)) (FitsFloor n chunks) bs k)) h.known);
}

pub release_keeps : (digits : Scheme) (limit n chunks a : ℕ) (s s' : AnyDeskState) (done : Bool) → IsDeskOf digits limit n chunks a s → Releases s done s'
    → IsDeskOf digits limit n chunks a s'
release_keeps digits limit n chunks a (Idle d) s' true h r = absurd r
release_keeps digits limit n chunks a (Idle d) s' false h r = subst (λ z. IsDeskOf digits limit n chunks a z) (sym r) h
release_keeps digits limit n chunks a (Held d) s' true h r =
    subst (λ z. IsDeskOf digits limit n chunks a z) (sym r.1) (record { numbered = h.numbered; placed = h.placed; known = All-nil (FitsFloor n chunks) })
release_keeps digits limit n chunks a (Held d) s' false h r = subst (λ z. IsDeskOf digits limit n chunks a z) (sym r.1) h
