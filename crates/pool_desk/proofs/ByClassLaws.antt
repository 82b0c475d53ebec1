-- The homes of all classes, joined.
use Rattle.std.proofs.Common.{◌≡◌, ◌≢◌, ℕ, zero, suc, ◌<◌, List, [], ◌∷◌, ◌++◌, length, get_or, set, refl, sym, ap, ◌∙◌, subst, arith, append_assoc, append-nil, All, IsPermutation, ◌⊎◌, inl, inr, ⊎_elim}
use Rattle.std.specs.Prelude.{Any, Bool, true, false, Contains, IsTrue, ◌↔◌, Option, Some, None, MatchBool, MatchOption, Result, Ok, Err, MatchResult, map}
use Rattle.std.proofs.lemmas.Bool.{false≢true}
use Rattle.std.specs.List.{flat_map}
use Rattle.std.proofs.lemmas.List.{get_or-set_same, get_or-set_other, length-append, length-set, get_or_append_left}
use Rattle.std.proofs.Math.Seq.{get_or-append_seam}
use Rattle.std.proofs.lemmas.Grind.{flat_map-append}
use Rattle.std.proofs.lemmas.List.Elements.{All-append, All-cons, All-contains, All-contains_itself, All-nil, All-weaker, Contains-append_right}
use Rattle.std.proofs.lemmas.List.Sorted.{IsPermutation-refl, IsPermutation-sym, IsPermutation-trans, IsPermutation-append_left, IsPermutation-append_right, IsPermutation-append_comm, Contains-permutation, All-permutation}
use Rattle.region_cut.specs.Carved.{Carved}
use Rattle.region_cut.specs.Classes.{class_count, slots_of}
use Rattle.region_cut.specs.declared.part.Part.{Part}
use Rattle.slot_chain.specs.Buffer.{Buffer}
use Rattle.slot_chain.specs.Parcels.{ParcelState}
use Rattle.pool_desk.specs.declared.error.DeskError.{DeskError}
use Rattle.pool_desk.specs.declared.error.DeskError.TheVariants.{TooLarge, NeedChunk, NotNeeded, Unsettled, NoMemory}
use Rattle.pool_desk.specs.Homes.{AtHome, HomeState, IsAtHome, IsReady, LiesIn, IsOwn, GivesOne, Names, Draws, IsUncut, class_at, IsUnused, IsRefused, unused_from}
use Rattle.pool_desk.specs.Homes.AtHome.{Kept, Fresh}
use Rattle.pool_desk.specs.HomesState.{HomesState, slots_of_home, drawn_at, no_home, home_at, empties, IsHome, AreHomes, HasChunk, LacksChunk, HasClass, LacksClass, IsWanting}
use Rattle.pool_desk.specs.Spares.{IsFitting}
use Rattle.pool_desk.proofs.HomeLaws.{unused_class}

pub split_at : {A B C : Type 0} → A ⊎ B → (A → C) → (B → C) → C
split_at s f g = ⊎_elim f g s

none_or : {X : Type 0} (xs : List X) → (xs ≡ []) ⊎ (xs ≢ [])
none_or [] = inl refl
none_or (x ∷ xs) = inr (λ e. absurd (cc))

same_or_not : (k j : ℕ) → (k ≡ j) ⊎ (k ≢ j)
same_or_not zero zero = inl refl
same_or_not zero (suc j) = inr (λ e. absurd (omega (arith, e)))
same_or_not (suc k) zero = inr (λ e. absurd (omega (arith, e)))
same_or_not (suc k) (suc j) = split_at (same_or_not k j) (λ e. inl (ap suc e)) (λ ne. inr (λ e. ne (omega (arith, e))))

pub empties_length : (owner n : ℕ) → length (empties owner n) ≡ n
unfolding empties
empties_length owner zero = refl
empties_length owner (suc n) = let h = empties_length owner n in length-append (empties owner n) _ ∙ omega (arith, h)

-- what f shows of all homes but the home k
abbrev pub without : {X : Type 0} → (HomeState → List X) → List HomeState → ℕ → List X
without f [] k = []
without f (h ∷ hs) zero = flat_map f hs
without f (h ∷ hs) (suc k) = f h ++ without f hs k

swap_front : {X : Type 0} (xs ys zs : List X) → IsPermutation (xs ++ (ys ++ zs)) (ys ++ (xs ++ zs))
swap_front xs ys zs =
    rw (← append_assoc xs ys zs, ← append_assoc ys xs zs) (IsPermutation-append_left zs _ _ (IsPermutation-append_comm xs ys))

-- the home k, and the others
pub apart : {X : Type 0} (f : HomeState → List X) (hs : List HomeState) (k : ℕ) → k < length hs → IsPermutation (flat_map f hs) (f (home_at hs k) ++ without f hs k)
apart f [] k l = absurd (omega arith)
apart f (h ∷ hs) zero l = IsPermutation-refl _
apart f (h ∷ hs) (suc k) l =
    IsPermutation-trans _ _ _
    (IsPermutation-append_right (f h) _ _ (apart f hs k (omega arith)))
    (swap_front (f h) (f (home_at hs k)) (without f hs k))

pub apart_set : {X : Type 0} (f : HomeState → List X) (hs : List HomeState) (k : ℕ) (h : HomeState) → k < length hs → IsPermutation (flat_map f (set hs k h)) (f h ++ without f hs k)
apart_set f [] k h l = absurd (omega arith)
apart_set f (x ∷ hs) zero h l = IsPermutation-refl _
apart_set f (x ∷ hs) (suc k) h l =
    IsPermutation-trans _ _ _
    (IsPermutation-append_right (f x) _ _ (apart_set f hs k h (omega arith)))
    (swap_front (f x) (f h) (without f hs k))

-- what leaves the home k leaves the homes
pub leaving : {X : Type 0} (f : HomeState → List X) (hs : List HomeState) (k : ℕ) (h : HomeState) (gone : List X) → k < length hs
    → IsPermutation (f (home_at hs k)) (gone ++ f h) → IsPermutation (flat_map f hs) (gone ++ flat_map f (set hs k h))
leaving f hs k h gone l p =
    IsPermutation-trans _ _ _ (apart f hs k l)
    (IsPermutation-trans _ _ _ (rw append_assoc at (IsPermutation-append_left (without f hs k) _ _ p))
    (IsPermutation-append_right gone _ _ (IsPermutation-sym _ _ (apart_set f hs k h l))))

-- what comes to the home k comes to the homes
pub coming : {X : Type 0} (f : HomeState → List X) (hs : List HomeState) (k : ℕ) (h : HomeState) (come : List X) → k < length hs
    → IsPermutation (come ++ f (home_at hs k)) (f h) → IsPermutation (come ++ flat_map f hs) (flat_map f (set hs k h))
coming f hs k h come l p =
    IsPermutation-trans _ _ _ (IsPermutation-append_right come _ _ (apart f hs k l))
    (IsPermutation-trans _ _ _ (rw append_assoc at (IsPermutation-append_left (without f hs k) _ _ p))
    (IsPermutation-sym _ _ (apart_set f hs k h l)))

-- what stays in the home k stays
pub staying : {X : Type 0} (f : HomeState → List X) (hs : List HomeState) (k : ℕ) (h : HomeState) → f h ≡ f (home_at hs k) → flat_map f (set hs k h) ≡ flat_map f hs
staying f [] k h e = refl
staying f (x ∷ hs) zero h e = ap (λ (ys : List _). ys ++ flat_map f hs) e
staying f (x ∷ hs) (suc k) h e = ap (λ (ys : List _). f x ++ ys) (staying f hs k h e)

-- what the giving of a slot of the home k does to its drawn chunks, it does to all
names_joined : (from : AtHome) (b : Buffer) (hs : List HomeState) (k : ℕ) (h : HomeState) → k < length hs
    → Names from b (home_at hs k).drawn h.drawn → Names from b (flat_map drawn_at hs) (flat_map drawn_at (set hs k h))
names_joined (Kept a) b hs k h l same = staying drawn_at hs k h same
names_joined (Fresh u) b hs k h l t = record {
  from = t.from;
  rest = t.rest;
  others = t.others ++ without drawn_at hs k;
  chunk = t.chunk;
  class_is = t.class_is;
  part = t.part;
  place = t.place;
  left = t.left;
  before = IsPermutation-trans _ _ _ (apart drawn_at hs k l) (IsPermutation-append_left (without drawn_at hs k) _ _ t.before);
  after = IsPermutation-trans _ _ _ (apart_set drawn_at hs k h l) (IsPermutation-append_left (without drawn_at hs k) _ _ t.after);
}

gives_joined : (owner k : ℕ) (hs : List HomeState) (h : HomeState) (b : Buffer) → AreHomes owner hs → k < class_count
    → GivesOne (home_at hs k).owner (home_at hs k).class (home_at hs k).slots b h.slots (home_at hs k).drawn h.drawn
    → GivesOne owner k (flat_map slots_of_home hs) b (flat_map slots_of_home (set hs k h)) (flat_map drawn_at hs) (flat_map drawn_at (set hs k h))
gives_joined owner k hs h b are l g =
    let one = are.each k l in
    record {
      owner_is = g.owner_is ∙ one.owner_is;
      class_is = g.class_is ∙ one.class_is;
      from = g.from;
      gives = g.gives;
      others = leaving slots_of_home hs k h (g.from ∷ []) (rw are.count l) g.others;
      names = names_joined g.from b hs k h (rw are.count l) g.names;
    }

-- what holds of each slot of each home
All-joined : (P : AtHome → Type 0) (hs : List HomeState) → ((k : ℕ) → k < length hs → All P (home_at hs k).slots) → All P (flat_map slots_of_home hs)
All-joined P [] each = All-nil P
All-joined P (h ∷ hs) each = All-append P h.slots (flat_map slots_of_home hs) (each 0 (omega arith)) (All-joined P hs (λ k l. each (suc k) (omega arith)))

-- one home is another, and the homes are still those of their classes
are_set : (owner k : ℕ) (hs : List HomeState) (h : HomeState) → AreHomes owner hs → k < class_count → IsHome owner k h → AreHomes owner (set hs k h)
are_set owner k hs h are l is = record {
  count = length-set hs k h ∙ are.count;
  each = λ j m. split_at (same_or_not k j)
      (λ (e : k ≡ j). subst (λ j. IsHome owner j (home_at (set hs k h) j)) e (rw (get_or-set_same hs k h no_home (rw are.count l)) is))
      (λ (ne : k ≢ j). rw (get_or-set_other hs k j h no_home (λ e. ne (sym e))) (are.each j m));
}

class_of : (owner j : ℕ) (s : AtHome) → IsAtHome owner j s → class_at s ≡ j
class_of owner j (Kept b) is = is.1
class_of owner j (Fresh u) is = is

own_at : (owner j : ℕ) (s : AtHome) → IsAtHome owner j s → IsOwn owner s
own_at owner j (Kept b) is = is.0
own_at owner j (Fresh u) is = tt

-- all that came home is the owner's
pub own_joined : (owner : ℕ) (hs : List HomeState) → AreHomes owner hs → All (IsOwn owner) (flat_map slots_of_home hs)
own_joined owner hs are =
    All-joined (IsOwn owner) hs
    (λ k l. All-weaker (IsAtHome owner k) (IsOwn owner) (own_at owner k) (home_at hs k).slots (are.each k (rw are.count at l)).each)

-- no slot of class k is there where the home k is empty
none_joined : (owner k : ℕ) (hs : List HomeState) → AreHomes owner hs → k < class_count → (home_at hs k).slots ≡ [] → LacksClass k (flat_map slots_of_home hs)
none_joined owner k hs are l none =
    All-joined (λ (s : AtHome). class_at s ≢ k) hs (λ j m. split_at (same_or_not k j)
    (λ (e : k ≡ j). rw (← e, none) (All-nil _))
    (λ (ne : k ≢ j). All-weaker (IsAtHome owner j) (λ (s : AtHome). class_at s ≢ k) (λ s is e. ne (sym e ∙ class_of owner j s is)) (home_at hs j).slots (are.each j (rw are.count at m)).each))

-- the home k with other slots of its own
abbrev pub with_slots : HomeState → List AtHome → List Carved → HomeState
with_slots h slots drawn = record h { slots = slots; drawn = drawn }

All-tail : {X : Type 0} (P : X → Type 0) (x : X) (xs : List X) → All P (x ∷ xs) → All P xs
All-tail P x xs h = λ k d l. h (suc k) d (omega (arith, l))

-- this chunk was drawn for the class
abbrev pub IsFor : ℕ → Carved → Type 0
IsFor class c = c.class ≡ class

are_with : (owner k : ℕ) (hs : List HomeState) (slots : List AtHome) (drawn : List Carved) → AreHomes owner hs → k < class_count → All (IsAtHome owner k) slots
    → All (IsFor k) drawn → AreHomes owner (set hs k (with_slots (home_at hs k) slots drawn))
are_with owner k hs slots drawn are l all chunks =
    are_set owner k hs (with_slots (home_at hs k) slots drawn) are l
    (record { owner_is = (are.each k l).owner_is; class_is = (are.each k l).class_is; each = all; chunks = chunks })

-- a chunk that gives a slot stays the class's
names_chunks : (k : ℕ) (from : AtHome) (b : Buffer) (old new : List Carved) → All (IsFor k) old → Names from b old new → All (IsFor k) new
names_chunks k (Kept a) b old new all same = rw same all
names_chunks k (Fresh u) b old new all t =
    let before : All (IsFor k) (t.from ∷ t.others) = All-permutation (IsFor k) old (t.from ∷ t.others) t.before all in
    All-permutation (IsFor k) _ new (IsPermutation-sym _ _ t.after)
    (All-cons (IsFor k) _ t.others (before 0 t.from (omega arith)) (All-tail (IsFor k) t.from t.others before))

-- so does one that is drawn for it
draws_chunks : (k : ℕ) (part : Part) (old new : List Carved) → All (IsFor k) old → Draws part k old new → All (IsFor k) new
draws_chunks k part old new all d = All-permutation (IsFor k) (d.drawn ∷ old) new d.added (All-cons (IsFor k) d.drawn old d.uncut.class_is all)

some_any : {X : Type 0} (P : X → Type 0) (xs ys : List X) → xs ≢ [] → All P xs → Any P (xs ++ ys)
some_any P [] ys ne all = absurd (ne refl)
some_any P (x ∷ xs) ys ne all = (0, x, omega arith, refl, all 0 x (omega arith))

Any-permutation : {X : Type 0} (P : X → Type 0) (xs ys : List X) → IsPermutation xs ys → Any P xs → Any P ys
Any-permutation P xs ys p h =
    let c = Contains-permutation xs ys h.1 p (h.0, h.2, h.3) in (c.0, h.1, c.1, c.2, h.4)

-- some slot of class k is there where the home k is not empty
pub some_joined : (owner k : ℕ) (hs : List HomeState) → AreHomes owner hs → k < class_count → (home_at hs k).slots ≢ [] → HasClass k (flat_map slots_of_home hs)
some_joined owner k hs are l ne =
    Any-permutation (λ (s : AtHome). class_at s ≡ k) _ _ (IsPermutation-sym _ _ (apart slots_of_home hs k (rw are.count l)))
    (some_any (λ (s : AtHome). class_at s ≡ k) (home_at hs k).slots (without slots_of_home hs k) ne
    (All-weaker (IsAtHome owner k) (λ (s : AtHome). class_at s ≡ k) (λ s is. class_of owner k s is) (home_at hs k).slots (are.each k l).each))

pub joined_some : (owner k : ℕ) (hs : List HomeState) → AreHomes owner hs → k < class_count → HasClass k (flat_map slots_of_home hs) → (home_at hs k).slots ≢ []
joined_some owner k hs are l any none = none_joined owner k hs are l none any.0 any.1 any.2 (rw any.3 any.4)

-- the home k is empty where no slot of class k is there
pub lacking : (owner k : ℕ) (hs : List HomeState) → AreHomes owner hs → k < class_count → (HasClass k (flat_map slots_of_home hs) → ⊥) → (home_at hs k).slots ≡ []
lacking owner k hs are l none =
    split_at (none_or (home_at hs k).slots) (λ e. e) (λ ne. absurd (none (some_joined owner k hs are l ne)))

pub lacks_joined : (owner k : ℕ) (hs : List HomeState) → AreHomes owner hs → k < class_count → (HasClass k (flat_map slots_of_home hs) → ⊥) → LacksClass k (flat_map slots_of_home hs)
lacks_joined owner k hs are l none = none_joined owner k hs are l (lacking owner k hs are l none)

-- a chunk of class k is there where the home k has one
chunk_joined : (owner k : ℕ) (hs : List HomeState) → AreHomes owner hs → k < class_count → (home_at hs k).drawn ≢ [] → HasChunk k (flat_map drawn_at hs)
chunk_joined owner k hs are l ne =
    Any-permutation (IsFor k) _ _ (IsPermutation-sym _ _ (apart drawn_at hs k (rw are.count l)))
    (some_any (IsFor k) (home_at hs k).drawn (without drawn_at hs k) ne (are.each k l).chunks)

-- what holds of each chunk of each home
All-chunks : (P : Carved → Type 0) (hs : List HomeState) → ((k : ℕ) → k < length hs → All P (home_at hs k).drawn) → All P (flat_map drawn_at hs)
All-chunks P [] each = All-nil P
All-chunks P (h ∷ hs) each = All-append P h.drawn (flat_map drawn_at hs) (each 0 (omega arith)) (All-chunks P hs (λ k l. each (suc k) (omega arith)))

none_chunked : (owner k : ℕ) (hs : List HomeState) → AreHomes owner hs → k < class_count → (home_at hs k).drawn ≡ [] → LacksChunk k (flat_map drawn_at hs)
none_chunked owner k hs are l none =
    All-chunks (λ (c : Carved). c.class ≢ k) hs (λ j m. split_at (same_or_not k j)
    (λ (e : k ≡ j). rw (← e, none) (All-nil _))
    (λ (ne : k ≢ j). All-weaker (IsFor j) (λ (c : Carved). c.class ≢ k) (λ c is e. ne (sym e ∙ is)) (home_at hs j).drawn (are.each j (rw are.count at m)).chunks))

-- whether the home k has a chunk says whether class k has one
pub chunk_told : (owner k : ℕ) (hs : List HomeState) (r : Bool) → AreHomes owner hs → k < class_count → (IsTrue r ↔ ((home_at hs k).drawn ≢ []))
    → MatchBool r (HasChunk k (flat_map drawn_at hs)) (LacksChunk k (flat_map drawn_at hs))
chunk_told owner k hs true are l is = chunk_joined owner k hs are l (is.0 refl)
chunk_told owner k hs false are l is =
    none_chunked owner k hs are l (split_at (none_or (home_at hs k).drawn) (λ e. e) (λ ne. absurd (false≢true (is.1 ne))))

unused_joined : (owner k : ℕ) (hs : List HomeState) → AreHomes owner hs → k < class_count → All IsUnused (home_at hs k).slots
    → All (λ (s : AtHome). class_at s ≡ k → IsUnused s) (flat_map slots_of_home hs)
unused_joined owner k hs are l all =
    All-joined (λ (s : AtHome). class_at s ≡ k → IsUnused s) hs (λ j m. split_at (same_or_not k j)
    (λ (e : k ≡ j). rw (← e) (All-weaker IsUnused (λ (s : AtHome). class_at s ≡ k → IsUnused s) (λ s u _. u) (home_at hs k).slots all))
    (λ (ne : k ≢ j). All-weaker (IsAtHome owner j) (λ (s : AtHome). class_at s ≡ k → IsUnused s) (λ s is e. absurd (ne (sym e ∙ class_of owner j s is))) (home_at hs j).slots (are.each j (rw are.count at m)).each))

-- the refusal of the home k
wants_joined : (owner k : ℕ) (hs : List HomeState) (e : DeskError) → AreHomes owner hs → k < class_count
    → IsRefused (home_at hs k).class (home_at hs k).slots e → IsWanting k (flat_map slots_of_home hs) e
wants_joined owner k hs TooLarge are l r = elim r [ ]
wants_joined owner k hs (NeedChunk c) are l r = (r.0 ∙ (are.each k l).class_is, none_joined owner k hs are l r.1)
wants_joined owner k hs NotNeeded are l r = elim r [ ]
wants_joined owner k hs Unsettled are l r = elim r [ ]
wants_joined owner k hs NoMemory are l r = (some_joined owner k hs are l r.0, unused_joined owner k hs are l r.1)

-- what the home k gives, or refuses
abbrev pub GivesAt : ℕ → List HomeState → Result Buffer DeskError → List HomeState → Type 0
GivesAt k hs r hs' = let h = home_at hs k in let h' = home_at hs' k in
    MatchResult r (λ b. GivesOne h.owner h.class h.slots b h'.slots h.drawn h'.drawn) (λ e. IsRefused h.class h.slots e × (hs' ≡ hs))

pub alloc_keeps : (owner k : ℕ) (hs hs' : List HomeState) (r : Result Buffer DeskError) → AreHomes owner hs → k < class_count
    → hs' ≡ set hs k (with_slots (home_at hs k) (home_at hs' k).slots (home_at hs' k).drawn) → GivesAt k hs r hs' → AreHomes owner hs'
alloc_keeps owner k hs hs' (Ok b) are l same g =
    subst (AreHomes owner) (sym same)
    (are_with owner k hs (home_at hs' k).slots (home_at hs' k).drawn are l
    (All-tail (IsAtHome owner k) g.from (home_at hs' k).slots
    (All-permutation (IsAtHome owner k) (home_at hs k).slots (g.from ∷ (home_at hs' k).slots) g.others (are.each k l).each))
    (names_chunks k g.from b (home_at hs k).drawn (home_at hs' k).drawn (are.each k l).chunks g.names))
alloc_keeps owner k hs hs' (Err e) are l same g = subst (AreHomes owner) (sym g.1) are

-- what the homes show
abbrev pub shown : ℕ → List HomeState → HomesState
shown owner hs = record { owner = owner; slots = flat_map slots_of_home hs; drawn = flat_map drawn_at hs }

-- what all homes give, or refuse
pub alloc_shown : (owner k : ℕ) (hs hs' : List HomeState) (r : Result Buffer DeskError) → AreHomes owner hs → k < class_count
    → hs' ≡ set hs k (with_slots (home_at hs k) (home_at hs' k).slots (home_at hs' k).drawn) → GivesAt k hs r hs'
    → MatchResult r (λ b. GivesOne owner k (flat_map slots_of_home hs) b (flat_map slots_of_home hs') (flat_map drawn_at hs) (flat_map drawn_at hs'))
    (λ e. IsWanting k (flat_map slots_of_home hs) e × (shown owner hs' ≡ shown owner hs))
alloc_shown owner k hs hs' (Ok b) are l same g =
    subst (λ z. GivesOne owner k (flat_map slots_of_home hs) b (flat_map slots_of_home z) (flat_map drawn_at hs) (flat_map drawn_at z)) (sym same)
    (gives_joined owner k hs (with_slots (home_at hs k) (home_at hs' k).slots (home_at hs' k).drawn) b are l g)
alloc_shown owner k hs hs' (Err e) are l same g = (wants_joined owner k hs e are l g.0, ap (shown owner) g.1)

-- the slots of a part that was claimed for the home k
abbrev pub claimed : Part → ℕ → List AtHome
claimed part class = unused_from part.chunk class part.bytes.ghost_name (slots_of class) 0 part.bytes.now

pub claim_keeps : (owner : ℕ) (part : Part) (k : ℕ) (hs hs' : List HomeState) → AreHomes owner hs → k < class_count
    → hs' ≡ set hs k (with_slots (home_at hs k) (claimed part (home_at hs k).class) (home_at hs' k).drawn)
    → Draws part (home_at hs k).class (home_at hs k).drawn (home_at hs' k).drawn → AreHomes owner hs'
claim_keeps owner part k hs hs' are l same d =
    let drawn : Draws part k (home_at hs k).drawn (home_at hs' k).drawn = subst (λ c. Draws part c (home_at hs k).drawn (home_at hs' k).drawn) (are.each k l).class_is d in
    subst (AreHomes owner) (sym same)
    (are_with owner k hs _ _ are l (subst (λ c. All (IsAtHome owner k) (claimed part c)) (sym (are.each k l).class_is)
    (unused_class owner part.chunk k part.bytes.ghost_name (slots_of k) 0 part.bytes.now))
    (draws_chunks k part (home_at hs k).drawn (home_at hs' k).drawn (are.each k l).chunks drawn))

pub claim_slots : (owner : ℕ) (part : Part) (k : ℕ) (hs hs' : List HomeState) → AreHomes owner hs → k < class_count → (home_at hs k).slots ≡ []
    → hs' ≡ set hs k (with_slots (home_at hs k) (claimed part (home_at hs k).class) (home_at hs' k).drawn)
    → IsPermutation (claimed part k ++ flat_map slots_of_home hs) (flat_map slots_of_home hs')
claim_slots owner part k hs hs' are l none same =
    let new : List AtHome = claimed part (home_at hs k).class in
    let moved : IsPermutation (new ++ flat_map slots_of_home hs) (flat_map slots_of_home hs')
    = rw same (coming slots_of_home hs k (with_slots (home_at hs k) new (home_at hs' k).drawn) new (rw are.count l) (rw (none, append-nil) (IsPermutation-refl new))) in
    subst (λ c. IsPermutation (claimed part c ++ flat_map slots_of_home hs) (flat_map slots_of_home hs')) (are.each k l).class_is moved

pub claim_drawn : (owner : ℕ) (part : Part) (k : ℕ) (hs hs' : List HomeState) (slots : List AtHome) → AreHomes owner hs → k < class_count
    → hs' ≡ set hs k (with_slots (home_at hs k) slots (home_at hs' k).drawn)
    → Draws part (home_at hs k).class (home_at hs k).drawn (home_at hs' k).drawn
    → Draws part k (flat_map drawn_at hs) (flat_map drawn_at hs')
claim_drawn owner part k hs hs' slots are l same d = record {
  drawn = d.drawn;
  uncut = subst (λ c. IsUncut part c d.drawn) (are.each k l).class_is d.uncut;
  added = subst (λ z. IsPermutation (d.drawn ∷ flat_map drawn_at hs) (flat_map drawn_at z)) (sym same)
      (coming drawn_at hs k (with_slots (home_at hs k) slots (home_at hs' k).drawn) (d.drawn ∷ []) (rw are.count l) d.added);
}

pub own_kept : (owner k : ℕ) (hs : List HomeState) (b : Buffer) → AreHomes owner hs → k < class_count → b.owner ≡ owner → b.class ≡ k → b.filled ≡ 0
    → LiesIn (home_at hs k).owner (home_at hs k).class b
own_kept owner k hs b are l o c f = (o ∙ sym (are.each k l).owner_is, c ∙ sym (are.each k l).class_is, f)

pub keep_keeps : (owner k : ℕ) (hs hs' : List HomeState) (come : List AtHome) → AreHomes owner hs → k < class_count → All (IsAtHome owner k) come
    → hs' ≡ set hs k (with_slots (home_at hs k) (home_at hs' k).slots (home_at hs k).drawn)
    → IsPermutation (come ++ (home_at hs k).slots) (home_at hs' k).slots → AreHomes owner hs'
keep_keeps owner k hs hs' come are l own same p =
    subst (AreHomes owner) (sym same)
    (are_with owner k hs (home_at hs' k).slots (home_at hs k).drawn are l
    (All-permutation (IsAtHome owner k) (come ++ (home_at hs k).slots) (home_at hs' k).slots p (All-append (IsAtHome owner k) come _ own (are.each k l).each))
    (are.each k l).chunks)

pub keep_slots : (owner k : ℕ) (hs hs' : List HomeState) (come : List AtHome) → AreHomes owner hs → k < class_count
    → hs' ≡ set hs k (with_slots (home_at hs k) (home_at hs' k).slots (home_at hs k).drawn)
    → IsPermutation (come ++ (home_at hs k).slots) (home_at hs' k).slots
    → IsPermutation (come ++ flat_map slots_of_home hs) (flat_map slots_of_home hs')
keep_slots owner k hs hs' come are l same p =
    subst (λ z. IsPermutation (come ++ flat_map slots_of_home hs) (flat_map slots_of_home z)) (sym same)
    (coming slots_of_home hs k (with_slots (home_at hs k) (home_at hs' k).slots (home_at hs k).drawn) come (rw are.count l) p)

pub keep_shown : (owner k : ℕ) (hs hs' : List HomeState)
    → hs' ≡ set hs k (with_slots (home_at hs k) (home_at hs' k).slots (home_at hs k).drawn)
    → shown owner hs' ≡ record (shown owner hs) { slots = flat_map slots_of_home hs' }
keep_shown owner k hs hs' same =
    let drawn : flat_map drawn_at hs' ≡ flat_map drawn_at hs = ap (flat_map drawn_at) same ∙ staying drawn_at hs k _ refl in
    ap (λ (d : List Carved). record { owner = owner; slots = flat_map slots_of_home hs'; drawn = d }) drawn

-- what the home k gives of its arrays
abbrev pub TakesAt : (most places k : ℕ) → List HomeState → Option ParcelState → List HomeState → Type 0
TakesAt most places k hs o hs' = let h = home_at hs k in let h' = home_at hs' k in
    MatchOption o (hs' ≡ hs) (λ a. IsFitting most places a × All (IsReady h.owner h.class) a.items
    × IsPermutation h.slots (map {A = Buffer} {B = AtHome} (λ x. Kept x) a.items ++ h'.slots))

All-behind : {X : Type 0} (P : X → Type 0) (xs ys : List X) → All P (xs ++ ys) → All P ys
All-behind P xs ys h =
    All-weaker (Contains ys) P (λ x c. All-contains P (xs ++ ys) x h (Contains-append_right xs ys x c)) ys (All-contains_itself ys)

pub take_keeps : (owner most places k : ℕ) (hs hs' : List HomeState) (o : Option ParcelState) → AreHomes owner hs → k < class_count
    → hs' ≡ set hs k (with_slots (home_at hs k) (home_at hs' k).slots (home_at hs k).drawn) → TakesAt most places k hs o hs' → AreHomes owner hs'
take_keeps owner most places k hs hs' None are l same t = subst (AreHomes owner) (sym t) are
take_keeps owner most places k hs hs' (Some a) are l same t =
    subst (AreHomes owner) (sym same)
    (are_with owner k hs (home_at hs' k).slots (home_at hs k).drawn are l
    (All-behind (IsAtHome owner k) (map {A = Buffer} {B = AtHome} (λ x. Kept x) a.items) (home_at hs' k).slots
    (All-permutation (IsAtHome owner k) (home_at hs k).slots _ t.2 (are.each k l).each))
    (are.each k l).chunks)

pub take_shown : (owner most places k : ℕ) (hs hs' : List HomeState) (o : Option ParcelState) → AreHomes owner hs → k < class_count
    → hs' ≡ set hs k (with_slots (home_at hs k) (home_at hs' k).slots (home_at hs k).drawn) → TakesAt most places k hs o hs'
    → MatchOption o (shown owner hs' ≡ shown owner hs) (λ a. IsFitting most places a × All (IsReady owner k) a.items
    × IsPermutation (flat_map slots_of_home hs) (map {A = Buffer} {B = AtHome} (λ x. Kept x) a.items ++ flat_map slots_of_home hs'))
take_shown owner most places k hs hs' None are l same t = ap (shown owner) t
take_shown owner most places k hs hs' (Some a) are l same t =
    let gone : List AtHome = map {A = Buffer} {B = AtHome} (λ x. Kept x) a.items in
    let each : All (IsReady owner k) a.items = rw ((are.each k l).owner_is, (are.each k l).class_is) at t.1 in (
      t.0,
      each,
      subst (λ z. IsPermutation (flat_map slots_of_home hs) (gone ++ flat_map slots_of_home z)) (sym same)
          (leaving slots_of_home hs k (with_slots (home_at hs k) (home_at hs' k).slots (home_at hs k).drawn) gone (rw are.count l) t.2),
    )

-- the homes of a new desk
empties_at : (owner n k : ℕ) → k < n → home_at (empties owner n) k ≡ record { owner = owner; class = k; slots = []; drawn = [] }
unfolding empties
empties_at owner zero k l = absurd (omega (arith, l))
empties_at owner (suc n) k l = let last : HomeState = record { owner = owner; class = n; slots = []; drawn = [] } in split_at (same_or_not k n)
    (λ (e : k ≡ n). rw e (subst (λ z. get_or (empties owner n ++ last ∷ []) z no_home ≡ last) (empties_length owner n) (get_or-append_seam (empties owner n) _ [] no_home)))
    (λ (ne : k ≢ n). get_or_append_left (empties owner n) _ no_home k (rw (empties_length owner n) (omega (arith, l, ne))) ∙ empties_at owner n k (omega (arith, l, ne)))

pub empties_slots : (owner n : ℕ) → flat_map slots_of_home (empties owner n) ≡ []
unfolding empties
empties_slots owner zero = refl
empties_slots owner (suc n) = flat_map-append slots_of_home (empties owner n) _ ∙ (rw (empties_slots owner n) refl)

pub empties_drawn : (owner n : ℕ) → flat_map drawn_at (empties owner n) ≡ []
unfolding empties
empties_drawn owner zero = refl
empties_drawn owner (suc n) = flat_map-append drawn_at (empties owner n) _ ∙ (rw (empties_drawn owner n) refl)

pub empties_are : (owner : ℕ) → AreHomes owner (empties owner class_count)
empties_are owner = record {
  count = empties_length owner class_count;
  each = λ k l. rw (empties_at owner class_count k l) (record { owner_is = refl; class_is = refl; each = All-nil _; chunks = All-nil _ });
}
