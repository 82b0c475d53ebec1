-- Lemmas on homes.
use Rattle.std.proofs.Common.{◌≡◌, ◌≢◌, ℕ, zero, suc, ◌+◌, ◌-◌, List, [], ◌∷◌, ◌++◌, length, refl, sym, ap, ◌∙◌, subst, arith, All, IsPermutation, append_assoc, map, take, drop, ltb, rules, tests}
use Rattle.std.proofs.lemmas.List.{map-append}
use Rattle.std.proofs.lemmas.List.Elements.{All-append, All-cons, All-nil, All-contains, All-contains_itself, All-weaker, Contains-append_left, Contains-append_right, Contains-push}
use Rattle.std.specs.Prelude.{◌≤◌, ◌↔◌, IsTrue, Contains, Option, Some, None, MatchOption, Result, Ok, Err, MatchResult}
use Rattle.std.proofs.lemmas.List.Sorted.{IsPermutation-refl, IsPermutation-sym, IsPermutation-trans, IsPermutation-append_left, IsPermutation-append_right, IsPermutation-append_comm, IsPermutation-cons, IsPermutation-map, All-permutation}
use Rattle.std.specs.Borrow.{GName, MutBor}
use Rattle.region_cut.specs.declared.slot.Slot.{Slot}
use Rattle.std.proofs.Math.Nat.{zero-add}
use Rattle.region_cut.specs.declared.part.Part.{Part}
use Rattle.region_cut.specs.declared.part.Piece.{Piece}
use Rattle.region_cut.specs.declared.part.Bump.{Bump}
use Rattle.region_cut.specs.Bumps.{left_of, part_of, HoldsPart, GivesNext}
use Rattle.region_cut.specs.Classes.{slots_of, size_of}
use Rattle.slot_chain.specs.Buffer.{Buffer}
use Rattle.slot_chain.specs.Filling.{emptied}
use Rattle.slot_chain.specs.Parcels.{EmptiesSome, IsOf, IsPacked, ParcelState}
use Rattle.slot_chain.proofs.Emptied.{emptied_all}
use Rattle.pool_desk.specs.declared.error.DeskError.{DeskError}
use Rattle.pool_desk.specs.NextSlots.{GivesNextSlot}
use Rattle.pool_desk.specs.Homes.{HomeState, IsRefused, AtHome, IsAtHome, IsReady, LiesIn, comes_home, unused_from, unused_of, IsUnused, GivesOne, Draws, taken_next}
use Rattle.region_cut.specs.Carved.{Carved, carved_of}
use Rattle.pool_desk.specs.Homes.AtHome.{Kept, Fresh}
use Rattle.pool_desk.specs.Spares.{IsFitting}

pub unused_length : (chunk class : ℕ) (part : GName) (n i : ℕ) (bs : List ℕ) → length (unused_from chunk class part n i bs) ≡ n
unused_length chunk class part zero i bs = refl
unused_length chunk class part (suc n) i bs = ap suc (unused_length chunk class part n (i + 1) (drop (size_of class) bs))

pub unused_class : (owner chunk class : ℕ) (part : GName) (n i : ℕ) (bs : List ℕ) → All (IsAtHome owner class) (unused_from chunk class part n i bs)
unused_class owner chunk class part zero i bs = All-nil _
unused_class owner chunk class part (suc n) i bs =
    All-cons (IsAtHome owner class) _ _ refl (unused_class owner chunk class part n (i + 1) (drop (size_of class) bs))

pub sub_zero : (n : ℕ) → n - 0 ≡ n
sub_zero n = omega arith

-- a new cursor
pub unused_new : (p : Part) (k : ℕ) (b : Bump) → HoldsPart p k b
    → unused_of b ≡ unused_from p.chunk k p.bytes.ghost_name (slots_of k) 0 p.bytes.now
unused_new p k b h = rw (h.chunk, h.class_is, h.none_given, h.same_bytes, h.same_part, sub_zero) refl

pub take_front : (xs ys : List ℕ) → take (length xs) (xs ++ ys) ≡ xs
take_front [] ys = refl
take_front (x ∷ xs) ys = ap (λ z. x ∷ z) (take_front xs ys)

pub drop_front : (xs ys : List ℕ) → drop (length xs) (xs ++ ys) ≡ ys
drop_front [] ys = refl
drop_front (x ∷ xs) ys = drop_front xs ys

pub unused_step : (chunk class : ℕ) (part : GName) (n i : ℕ) (xs ys : List ℕ) → length xs ≡ size_of class
    → unused_from chunk class part (suc n) i (xs ++ ys)
    ≡ Fresh (record { slot = record { chunk = chunk; index = i }; class = class; part = part; bytes = xs }) ∷ unused_from chunk class part n (i + 1) ys
unused_step chunk class part n i xs ys h =
    let front : take (size_of class) (xs ++ ys) ≡ xs = subst (λ z. take z (xs ++ ys) ≡ xs) h (take_front xs ys) in
    let back : drop (size_of class) (xs ++ ys) ≡ ys = subst (λ z. drop z (xs ++ ys) ≡ ys) h (drop_front xs ys) in
    subst (λ z. unused_from chunk class part (suc n) i (xs ++ ys) ≡ Fresh (record { slot = record { chunk = chunk; index = i }; class = class; part = part; bytes = z }) ∷ unused_from chunk class part n (i + 1) ys) front
    (subst (λ w. unused_from chunk class part (suc n) i (xs ++ ys) ≡ Fresh (record { slot = record { chunk = chunk; index = i }; class = class; part = part; bytes = take (size_of class) (xs ++ ys) }) ∷ unused_from chunk class part n (i + 1) w) back refl)

pub same_unused : {chunk chunk' class class' : ℕ} {part part' : GName} {n n' i i' : ℕ} {bs bs' : List ℕ}
    → chunk ≡ chunk' → class ≡ class' → part ≡ part' → n ≡ n' → i ≡ i' → bs ≡ bs'
    → unused_from chunk class part n i bs ≡ unused_from chunk' class' part' n' i' bs'
same_unused a b c d e f = rw (a, b, c, d, e, f) refl

-- the slot that a cursor gives is the first of those that it had
pub unused_next : (b b' : Bump) (p : Piece) → GivesNext b b' p
    → unused_of b ≡ Fresh (record { slot = p.slot; class = b.class; part = part_of b; bytes = p.bytes.now }) ∷ unused_of b'
unused_next b b' p g =
    let n : slots_of b.class - b.next ≡ suc (slots_of b.class - (b.next + 1)) = let w = g.was_left in omega arith in
    let slot : record { chunk = b.chunk; index = b.next } ≡ p.slot = rw (g.slot_chunk, g.slot_index) refl in
    let class : b.class ≡ b'.class = sym g.same_class in
    let left : slots_of b.class - (b.next + 1) ≡ left_of b' = rw (g.one_more, ← class) refl in
    same_unused refl refl refl n refl g.joined_now
    ∙ (unused_step b.chunk b.class (part_of b) (slots_of b.class - (b.next + 1)) b.next p.bytes.now b'.front.rest.now g.size_is
    ∙ (ap (λ (s : Slot). Fresh (record { slot = s; class = b.class; part = part_of b; bytes = p.bytes.now }) ∷ unused_from b.chunk b.class (part_of b) (slots_of b.class - (b.next + 1)) (b.next + 1) b'.front.rest.now) slot
    ∙ ap (λ us. Fresh (record { slot = p.slot; class = b.class; part = part_of b; bytes = p.bytes.now }) ∷ us)
    (same_unused (sym g.same_chunk) class (sym g.same_part) left (sym g.one_more) refl)))

pub kept_length : (bs : List Buffer) (us : List AtHome) → length (map {A = Buffer} {B = AtHome} (λ x. Kept x) bs ++ us) ≡ length bs + length us
kept_length [] us = sym (zero-add _)
kept_length (b ∷ bs) us = let h = kept_length bs us in omega (arith, h)

pub none_kept : (bs : List Buffer) (us : List AtHome) → map {A = Buffer} {B = AtHome} (λ x. Kept x) bs ++ us ≡ [] → bs ≡ []
none_kept [] us e = refl
none_kept (b ∷ bs) us e = absurd (cc)

pub front_none : (xs ys : List Buffer) → xs ++ ys ≡ [] → xs ≡ []
front_none [] ys e = refl
front_none (x ∷ xs) ys e = absurd (cc)

pub behind_none : (xs ys : List Buffer) → xs ++ ys ≡ [] → ys ≡ []
behind_none [] ys e = e
behind_none (x ∷ xs) ys e = absurd (cc)

pub unused_all : (chunk class : ℕ) (part : GName) (n i : ℕ) (bs : List ℕ) → All IsUnused (unused_from chunk class part n i bs)
unused_all chunk class part zero i bs = All-nil _
unused_all chunk class part (suc n) i bs = All-cons IsUnused _ _ tt (unused_all chunk class part n (i + 1) (drop (size_of class) bs))

pub unused_some : (chunk class : ℕ) (part : GName) (n i : ℕ) (bs : List ℕ) → n ≢ 0 → unused_from chunk class part n i bs ≢ []
unused_some chunk class part n i bs h e = h (sym (unused_length chunk class part n i bs) ∙ ap length e)

pub All-end : {X : Type 0} (P : X → Type 0) (xs : List X) (x : X) → All P (xs ++ x ∷ []) → P x
All-end P xs x h = All-contains P (xs ++ x ∷ []) x h (Contains-push xs x)

-- buffers in another order, and then other slots
pub kept_moved : (xs old new : List Buffer) (us : List AtHome) → IsPermutation (xs ++ old) new
    → IsPermutation (map {A = Buffer} {B = AtHome} (λ x. Kept x) xs ++ (map {A = Buffer} {B = AtHome} (λ x. Kept x) old ++ us)) (map {A = Buffer} {B = AtHome} (λ x. Kept x) new ++ us)
kept_moved xs old new us p =
    let f : Buffer → AtHome = λ x. Kept x in
    subst (λ l. IsPermutation l (map f new ++ us)) (ap (λ l. l ++ us) (map-append f xs old) ∙ append_assoc (map f xs) (map f old) us)
    (IsPermutation-append_left us (map f (xs ++ old)) (map f new) (IsPermutation-map f (xs ++ old) new p))

-- what comes to the end of the first of two lists comes to both
pub first_more : (ws xs ls : List Buffer) → IsPermutation (xs ++ (ws ++ ls)) ((ws ++ xs) ++ ls)
first_more ws xs ls =
    subst (λ l. IsPermutation l ((ws ++ xs) ++ ls)) (append_assoc xs ws ls) (IsPermutation-append_left ls (xs ++ ws) (ws ++ xs) (IsPermutation-append_comm xs ws))

-- what comes to the second of two lists comes to both
pub second_more : (ws xs ls ls' : List Buffer) → IsPermutation (ls ++ xs) ls' → IsPermutation (xs ++ (ws ++ ls)) (ws ++ ls')
second_more ws xs ls ls' p =
    IsPermutation-trans _ _ _ (IsPermutation-append_comm xs (ws ++ ls))
    (rw append_assoc (IsPermutation-append_right ws (ls ++ xs) ls' p))

-- one buffer more in a list of which each is so
pub all_one_more : (P : Buffer → Type 0) (ls ls' : List Buffer) (b : Buffer) → All P ls → P b → IsPermutation (ls ++ b ∷ []) ls' → All P ls'
all_one_more P ls ls' b each one p =
    All-permutation P _ _ p (All-append P ls (b ∷ []) each (All-cons P b [] one (All-nil P)))

-- a buffer that came home is given out
pub gives_one : (owner class : ℕ) (old new : List Buffer) (b : Buffer) (us : List AtHome) (drawn : List Carved)
    → LiesIn owner class b → IsPermutation (b ∷ new) old
    → GivesOne owner class (map {A = Buffer} {B = AtHome} (λ x. Kept x) old ++ us) b (map {A = Buffer} {B = AtHome} (λ x. Kept x) new ++ us) drawn drawn
gives_one owner class old new b us drawn one p = record {
  owner_is = one.0;
  class_is = one.1;
  from = Kept b;
  gives = ap (λ n. record b { filled = n }) one.2;
  others = IsPermutation-sym _ _ (kept_moved (b ∷ []) new old us p);
  names = refl;
}

-- the last of a list is given out
pub gives_kept : (owner class : ℕ) (whole list rest : List Buffer) (b : Buffer) (us : List AtHome) (drawn : List Carved)
    → All (LiesIn owner class) list → list ≡ rest ++ b ∷ []
    → GivesOne owner class (map {A = Buffer} {B = AtHome} (λ x. Kept x) (whole ++ list) ++ us) b (map {A = Buffer} {B = AtHome} (λ x. Kept x) (whole ++ rest) ++ us) drawn drawn
gives_kept owner class whole list rest b us drawn all is =
    gives_one owner class (whole ++ list) (whole ++ rest) b us drawn (All-end (LiesIn owner class) rest b (rw is at all))
    (second_more whole (b ∷ []) rest list (rw is (IsPermutation-refl _)))

-- what a list is where an array was taken apart: the last is given out, and the others are put into it
pub record TakesApart (whole list : List Buffer) (b : Buffer) (whole' list' : List Buffer) : Type 0 where
  pub rest : List Buffer
  pub array : whole ≡ whole' ++ (rest ++ b ∷ [])
  pub listed : IsPermutation (list ++ rest) list'

all_append : {X : Type 0} (P : X → Type 0) (xs ys : List X) → All P (xs ++ ys) → All P xs × All P ys
all_append P xs ys h = (
  All-weaker (Contains xs) P (λ x c. All-contains P (xs ++ ys) x h (Contains-append_left xs ys x c)) xs (All-contains_itself xs),
  All-weaker (Contains ys) P (λ x c. All-contains P (xs ++ ys) x h (Contains-append_right xs ys x c)) ys (All-contains_itself ys),
)

lies : (owner class : ℕ) (b : Buffer) → IsReady owner class b → LiesIn owner class b
lies owner class b r = (r.0.0.0, r.0.1, r.1)

pub ready_lies : (owner class : ℕ) (bs : List Buffer) → All (IsReady owner class) bs → All (LiesIn owner class) bs
ready_lies owner class bs h = All-weaker (IsReady owner class) (LiesIn owner class) (lies owner class) bs h

-- the buffers of the array that was taken apart
apart_parts : (owner class : ℕ) (whole list : List Buffer) (b : Buffer) (whole' list' : List Buffer) → TakesApart whole list b whole' list'
    → All (IsReady owner class) whole → All (LiesIn owner class) list
    → All (LiesIn owner class) list' × All (IsReady owner class) whole' × LiesIn owner class b
apart_parts owner class whole list b whole' list' t h g =
    let both = all_append (IsReady owner class) whole' (t.rest ++ b ∷ []) (rw t.array at h) in
    let rest = all_append (IsReady owner class) t.rest (b ∷ []) both.1 in (
      All-permutation (LiesIn owner class) (list ++ t.rest) list' t.listed (All-append (LiesIn owner class) list t.rest g (ready_lies owner class t.rest rest.0)),
      both.0,
      lies owner class b (All-end (IsReady owner class) t.rest b both.1),
    )

pub apart_keeps : (owner class : ℕ) (whole list : List Buffer) (b : Buffer) (whole' list' : List Buffer) → TakesApart whole list b whole' list'
    → All (IsReady owner class) whole → All (LiesIn owner class) list → All (LiesIn owner class) list' × All (IsReady owner class) whole'
apart_keeps owner class whole list b whole' list' t h g = let p = apart_parts owner class whole list b whole' list' t h g in (p.0, p.1)

pub gives_apart : (owner class : ℕ) (whole list : List Buffer) (b : Buffer) (whole' list' : List Buffer) (us : List AtHome) (drawn : List Carved)
    → TakesApart whole list b whole' list' → All (IsReady owner class) whole → All (LiesIn owner class) list
    → GivesOne owner class (map {A = Buffer} {B = AtHome} (λ x. Kept x) (whole ++ list) ++ us) b (map {A = Buffer} {B = AtHome} (λ x. Kept x) (whole' ++ list') ++ us) drawn drawn
gives_apart owner class whole list b whole' list' us drawn t h g =
    let came : IsPermutation (t.rest ++ (whole' ++ list)) (whole' ++ list') = second_more whole' t.rest list list' t.listed in
    let taken : IsPermutation ((t.rest ++ b ∷ []) ++ (whole' ++ list)) ((whole' ++ (t.rest ++ b ∷ [])) ++ list) = first_more whole' (t.rest ++ b ∷ []) list in
    let front : IsPermutation (b ∷ (t.rest ++ (whole' ++ list))) ((t.rest ++ b ∷ []) ++ (whole' ++ list)) =
    IsPermutation-append_left (whole' ++ list) (b ∷ t.rest) (t.rest ++ b ∷ []) (IsPermutation-append_comm (b ∷ []) t.rest) in
    gives_one owner class (whole ++ list) (whole' ++ list') b us drawn (apart_parts owner class whole list b whole' list' t h g).2
    (IsPermutation-trans _ _ _ (IsPermutation-cons b _ _ (IsPermutation-sym _ _ came))
    (rw t.array (IsPermutation-trans _ _ _ front taken)))

-- buffers that may be lent as they lie are slots at home
pub ready_home : (owner class : ℕ) (bs : List Buffer) → All (IsReady owner class) bs → All (IsAtHome owner class) (map {A = Buffer} {B = AtHome} (λ x. Kept x) bs)
ready_home owner class [] h = All-nil _
ready_home owner class (b ∷ bs) h =
    All-cons (IsAtHome owner class) (Kept b) _ (lies owner class b (h 0 b (omega arith))) (ready_home owner class bs (λ k d l. h (suc k) d (omega (arith, l))))

-- own buffers of a class are emptied, and may then be lent as they lie
pub packed_ready : (owner class : ℕ) (bs : List Buffer) → All (IsPacked owner) bs → All (IsOf class) bs → All (IsReady owner class) (map emptied bs)
packed_ready owner class [] h g = All-nil _
packed_ready owner class (b ∷ bs) h g =
    All-cons (IsReady owner class) (emptied b) _ ((h 0 b (omega arith), g 0 b (omega arith)), refl)
    (packed_ready owner class bs (λ k d l. h (suc k) d (omega (arith, l))) (λ k d l. g (suc k) d (omega (arith, l))))

pub packed_own : (owner : ℕ) (bs : List Buffer) → All (IsPacked owner) bs → All (λ (b : Buffer). b.owner ≡ owner) bs
packed_own owner bs h = All-weaker (IsPacked owner) (λ (b : Buffer). b.owner ≡ owner) (λ x p. p.0) bs h

-- a parcel of buffers that may be lent as they lie is their owner's
pub ready_owner : (a owner class : ℕ) (bs : List Buffer) → bs ≢ [] → All (IsPacked a) bs → All (IsReady owner class) bs → a ≡ owner
ready_owner a owner class [] some h g = absurd (some refl)
ready_owner a owner class (b ∷ bs) some h g = sym (h 0 b (omega arith)).0 ∙ (g 0 b (omega arith)).0.0.0

pub emptied_home : (bs : List Buffer) → map {A = Buffer} {B = AtHome} (λ x. Kept x) (map emptied bs) ≡ map comes_home bs
emptied_home [] = refl
emptied_home (b ∷ bs) = ap (λ hs. comes_home b ∷ hs) (emptied_home bs)

-- of those that may be lent as they lie nothing is to be emptied
pub ready_comes : (owner class : ℕ) (bs : List Buffer) → All (IsReady owner class) bs → map {A = Buffer} {B = AtHome} (λ x. Kept x) bs ≡ map comes_home bs
ready_comes owner class [] h = refl
ready_comes owner class (b ∷ bs) h =
    let same : b ≡ emptied b = ap (λ n. record b { filled = n }) (h 0 b (omega arith)).1 in
    ap (λ (x : Buffer). Kept x ∷ map {A = Buffer} {B = AtHome} (λ y. Kept y) bs) same
    ∙ ap (λ hs. comes_home b ∷ hs) (ready_comes owner class bs (λ k d l. h (suc k) d (omega (arith, l))))

-- a parcel whose buffers were all emptied
pub emptied_whole : (old new : ParcelState) → new ≡ record old { items = map emptied old.items } → EmptiesSome old new
emptied_whole old new e = rw e (refl, emptied_all old.items (map emptied old.items) refl)

pub emptied_some : (bs : List Buffer) → bs ≢ [] → map emptied bs ≢ []
emptied_some [] some e = some refl
emptied_some (b ∷ bs) some e = absurd (omega (arith, ap (λ (l : List Buffer). length l) e))

-- they come home as before, whatever was filled
pub home_alike : (old new : List Buffer) → map emptied new ≡ map emptied old → map comes_home new ≡ map comes_home old
home_alike old new same =
    sym (emptied_home new) ∙ (ap (map {A = Buffer} {B = AtHome} (λ x. Kept x)) same ∙ emptied_home old)

-- the last of an array comes to the end of a list
pub moved_last : (all list rest : List Buffer) (b : Buffer) → IsPermutation all (list ++ (rest ++ b ∷ [])) → IsPermutation all ((list ++ b ∷ []) ++ rest)
moved_last all list rest b p =
    IsPermutation-trans _ _ _ p (rw append_assoc (IsPermutation-append_right list (rest ++ b ∷ []) (b ∷ rest) (IsPermutation-append_comm rest (b ∷ []))))

-- a home with these buffers
abbrev pub home_with : (owner class : ℕ) → List Buffer → List AtHome → List Carved → HomeState
home_with owner class bs us drawn = record { owner = owner; class = class; slots = map {A = Buffer} {B = AtHome} (λ x. Kept x) bs ++ us; drawn = drawn }

-- a home whose arrays gave one, or none
pub taken_home : (owner class most places : ℕ) (whole whole' list : List Buffer) (us : List AtHome) (drawn : List Carved) (o : Option ParcelState)
    → MatchOption o (whole' ≡ whole) (λ a. (whole ≡ whole' ++ a.items) × (a.items ≢ []) × (length a.items ≤ most) × (a.places ≡ places))
    → All (IsReady owner class) whole
    → MatchOption o (home_with owner class (whole' ++ list) us drawn ≡ home_with owner class (whole ++ list) us drawn) (λ a. IsFitting most places a × All (IsReady owner class) a.items
    × IsPermutation (map {A = Buffer} {B = AtHome} (λ x. Kept x) (whole ++ list) ++ us)
    (map {A = Buffer} {B = AtHome} (λ x. Kept x) a.items ++ (map {A = Buffer} {B = AtHome} (λ x. Kept x) (whole' ++ list) ++ us)))
taken_home owner class most places whole whole' list us drawn None h all = ap (λ w. home_with owner class (w ++ list) us drawn) h
taken_home owner class most places whole whole' list us drawn (Some a) h all = (
  record { some = h.1; most = h.2; places_are = h.3 },
  (all_append (IsReady owner class) whole' a.items (rw h.0 at all)).1,
  IsPermutation-sym _ _ (kept_moved a.items (whole' ++ list) (whole ++ list) us (rw h.0 (first_more whole' a.items list))),
)

pub taken_ready : (owner class most places : ℕ) (whole whole' : List Buffer) (o : Option ParcelState)
    → MatchOption o (whole' ≡ whole) (λ a. (whole ≡ whole' ++ a.items) × (a.items ≢ []) × (length a.items ≤ most) × (a.places ≡ places))
    → All (IsReady owner class) whole → All (IsReady owner class) whole'
taken_ready owner class most places whole whole' None h all = rw h all
taken_ready owner class most places whole whole' (Some a) h all = (all_append (IsReady owner class) whole' a.items (rw h.0 at all)).0

-- the chunk of a cursor that gave a slot
pub carved_next : (b b' : Bump) (p : Piece) → GivesNext b b' p → carved_of b' ≡ taken_next (carved_of b) p.bytes.ghost_name b'.front.rest.now
carved_next b b' p g = rw (g.same_chunk, g.same_class, g.same_part, g.joined_then) refl

-- a slot is given out that never was
pub gives_fresh : (owner : ℕ) (class : ℕ) (x : Buffer) (b b' : Bump) (p : Piece) (drawn : List Carved) → GivesNext b b' p → b.class ≡ class
    → x.owner ≡ owner → x.class ≡ class → x.slot ≡ p.slot → x.forwards ≡ 0 → x.filled ≡ 0 → x.bytes ≡ p.bytes
    → GivesOne owner class (unused_of b) x (unused_of b') (carved_of b ∷ drawn) (carved_of b' ∷ drawn)
gives_fresh owner class x b b' p drawn g c o k s f n m = record {
  owner_is = o;
  class_is = k;
  from = Fresh (record { slot = p.slot; class = b.class; part = part_of b; bytes = p.bytes.now });
  gives = (s, k ∙ sym c, f, n, ap (λ (z : MutBor (List ℕ)). z.now) m);
  others = rw (unused_next b b' p g) (IsPermutation-refl _);
  names = record {
    from = carved_of b;
    rest = b'.front.rest.now;
    others = drawn;
    chunk = sym g.slot_chunk;
    class_is = refl;
    part = refl;
    place = b.counted ∙ sym g.slot_index;
    left = g.joined_now ∙ ap (λ (z : MutBor (List ℕ)). z.now ++ b'.front.rest.now) (sym m);
    before = IsPermutation-refl _;
    after = rw (carved_next b b' p g, m) (IsPermutation-refl _);
  };
}

-- a new cursor over a part
pub draws_new : (p : Part) (class : ℕ) (b : Bump) (old : List Carved) → HoldsPart p class b → Draws p class old (carved_of b ∷ old)
draws_new p class b old h = record {
  drawn = carved_of b;
  uncut = record { chunk = h.chunk; class_is = h.class_is; whole = h.same_part; none_taken = h.no_pieces; all_left = h.same_bytes };
  added = IsPermutation-refl _;
}

-- the buffers of a chain but the last are of the owner and class too
pub rest_own : (owner class : ℕ) (list rest : List Buffer) (b : Buffer) → All (LiesIn owner class) list → list ≡ rest ++ b ∷ [] → All (LiesIn owner class) rest
rest_own owner class list rest b all is =
    let own : Buffer → Type 0 = LiesIn owner class in
    All-weaker (Contains rest) own (λ x c. All-contains own (rest ++ b ∷ []) x (rw is at all) (Contains-append_left rest (b ∷ []) x c)) rest (All-contains_itself rest)

pub none_own : (owner class : ℕ) (list : List Buffer) → list ≡ [] → All (LiesIn owner class) list
none_own owner class list e = rw e (All-nil _)

pub unused_none : (chunk class : ℕ) (part : GName) (n i : ℕ) (bs : List ℕ) → n ≡ 0 → unused_from chunk class part n i bs ≡ []
unused_none chunk class part n i bs e = rw e refl

-- a cursor has a slot to give where some are left
pub left_some : (n : ℕ) (us : List AtHome) → length us ≡ n → IsTrue (ltb 0 n) ↔ (us ≢ [])
left_some zero [] e = (λ t. absurd (cc), λ ne. absurd (ne refl))
left_some zero (u ∷ us) e = absurd (omega (arith, e))
left_some (suc n) [] e = absurd (omega (arith, e))
left_some (suc n) (u ∷ us) e = (λ _ none. absurd (cc), λ _. search (rules, tests))

-- a home with no buffer in its list
abbrev pub home_of : (owner class : ℕ) → Bump → List Carved → HomeState
home_of owner class b ties = record { owner = owner; class = class; slots = unused_of b; drawn = carved_of b ∷ ties }

-- what its cursor gives, or refuses
pub next_slot_shown : (owner class : ℕ) (b b' : Bump) (ties : List Carved) (r : Result Buffer DeskError) → GivesNextSlot owner class b r b'
    → MatchResult r (λ x. GivesOne owner class (unused_of b) x (unused_of b') (carved_of b ∷ ties) (carved_of b' ∷ ties))
    (λ e. IsRefused class (unused_of b) e × (home_of owner class b' ties ≡ home_of owner class b ties))
next_slot_shown owner class b b' ties (Ok x) h = h ties
next_slot_shown owner class b b' ties (Err e) h = (h.0, ap (λ (z : Bump). home_of owner class z ties) h.1)

-- the last of a list goes home
pub kept_last : (all s s' : List AtHome) (rest : List Buffer) (b : Buffer) → IsPermutation all (map comes_home (rest ++ b ∷ []) ++ s)
    → IsPermutation (comes_home b ∷ s) s' → IsPermutation all (map comes_home rest ++ s')
kept_last all s s' rest b h g =
    let ks = map comes_home rest in
    let split : map comes_home (rest ++ b ∷ []) ++ s ≡ ks ++ comes_home b ∷ s = rw map-append (append_assoc ks (comes_home b ∷ []) s) in
    IsPermutation-trans _ _ _ (subst (λ l. IsPermutation all l) split h) (IsPermutation-append_right ks _ _ g)
