-- Slots that are added to a list one by one.
use Rattle.std.proofs.Common.{◌≡◌, ℕ, zero, suc, ◌+◌, ◌-◌, ◌<◌, ◌≤◌, List, [], ◌∷◌, ◌++◌, true, refl, sym, ap, ◌∙◌, subst, arith}
use Rattle.std.proofs.Common.{append_assoc, append-nil, IsPermutation, map, take, length, get_or}
use Rattle.std.specs.Prelude.{Result, Ok, Err, OnOk, is_ok}
use Rattle.std.specs.Result.{IsErr}
use Rattle.std.specs.Borrow.{GName}
use Rattle.std.specs.List.{flat_map}
use Rattle.std.proofs.lemmas.List.Sorted.{IsPermutation-refl, IsPermutation-append}
use Rattle.std.proofs.lemmas.List.{map-append, take_more, take_all}
use Rattle.std.proofs.lemmas.Grind.{flat_map-append}
use Rattle.slot_chain.specs.Slots.{AddsSlots, slot_of}
use Rattle.pool_desk.specs.HomesState.{slots_of_home}
use Rattle.std.proofs.Math.Seq.{take-append_seam}
use Rattle.region_cut.specs.declared.slot.Slot.{Slot}
use Rattle.slot_chain.specs.Buffer.{Buffer}
use Rattle.pool_desk.specs.Homes.{AtHome, HomeState, slot_at, unused_from}
use Rattle.pool_desk.specs.Homes.AtHome.{Kept}
use Rattle.pool_desk.specs.Slots.{AddsOn, places, slots_in}

-- of the slots whole those before rest were added
pub record Adding (whole rest old new : List Slot) : Type 0 where
  pub added : List Slot
  pub so_far : new ≡ old ++ added
  pub all : whole ≡ added ++ rest

pub Adding-none : (whole old : List Slot) → Adding whole whole old old
Adding-none whole old = record { added = []; so_far = sym (append-nil old); all = refl }

pub Adding-next : (whole : List Slot) (s : Slot) (rest old new : List Slot) → Adding whole (s ∷ rest) old new → Adding whole rest old (new ++ s ∷ [])
Adding-next whole s rest old new a = record {
  added = a.added ++ s ∷ [];
  so_far = ap (λ (z : List Slot). z ++ s ∷ []) a.so_far ∙ append_assoc old a.added (s ∷ []);
  all = a.all ∙ sym (append_assoc a.added (s ∷ []) rest);
}

pub Adding-done : {T E : Type 0} (r : Result T E) (slots whole old new : List Slot) → IsPermutation slots whole → Adding whole [] old new → AddsOn r slots old new
Adding-done (Ok t) slots whole old new p a = record { added = a.added; appended = a.so_far; each = subst (IsPermutation slots) (a.all ∙ append-nil a.added) p }
Adding-done (Err e) slots whole old new p a = record { added = a.added; appended = a.so_far; each = tt }

pub Adding-stop : {T E : Type 0} (e : E) (slots whole rest old new : List Slot) → Adding whole rest old new → AddsOn {T = T} (Err e) slots old new
Adding-stop e slots whole rest old new a = record { added = a.added; appended = a.so_far; each = tt }

-- nothing was added
pub Adds-none : (old : List Slot) → AddsSlots [] old old
Adds-none old = record { added = []; appended = sym (append-nil old); each = IsPermutation-refl [] }

pub Adds-ok : {T E : Type 0} (t : T) (slots old new : List Slot) → AddsOn {T = T} {E = E} (Ok t) slots old new → AddsSlots slots old new
Adds-ok t slots old new a = record { added = a.added; appended = a.appended; each = a.each }

-- more slots after those that were added
pub AddsOn-more : {T E : Type 0} (r : Result T E) (xs ys old mid new : List Slot) → AddsSlots xs old mid → AddsOn r ys mid new → AddsOn r (xs ++ ys) old new
AddsOn-more (Ok t) xs ys old mid new a b = record {
  added = a.added ++ b.added;
  appended = b.appended ∙ (ap (λ (z : List Slot). z ++ b.added) a.appended ∙ append_assoc old a.added b.added);
  each = IsPermutation-append _ _ _ _ a.each b.each;
}
AddsOn-more (Err e) xs ys old mid new a b = record {
  added = a.added ++ b.added;
  appended = b.appended ∙ (ap (λ (z : List Slot). z ++ b.added) a.appended ∙ append_assoc old a.added b.added);
  each = tt;
}

-- where some were added, none are again once the list is cut to its length
pub cut_back : {T E : Type 0} (r : Result T E) (slots old new : List Slot) → AddsOn r slots old new → take (length old) new ≡ old
cut_back r slots old new a = ap (take (length old)) a.appended ∙ take-append_seam old a.added

-- the slots that a cursor has still to give
pub unused_places : (chunk class : ℕ) (part : GName) (n i : ℕ) (bs : List ℕ) → map slot_at (unused_from chunk class part n i bs) ≡ places chunk n i
unused_places chunk class part zero i bs = refl
unused_places chunk class part (suc n) i bs = ap (λ (z : List Slot). record { chunk = chunk; index = i } ∷ z) (unused_places chunk class part n (i + 1) _)

pub kept_slots : (bs : List Buffer) → map slot_at (map {A = Buffer} {B = AtHome} (λ x. Kept x) bs) ≡ map slot_of bs
kept_slots [] = refl
kept_slots (b ∷ bs) = ap (λ (z : List Slot). b.slot ∷ z) (kept_slots bs)

-- the slots of a home: those of its list, and those that its cursor has still to give
home_slots : (bs : List Buffer) (us : List AtHome) → map slot_at (map {A = Buffer} {B = AtHome} (λ x. Kept x) bs ++ us) ≡ map slot_of bs ++ map slot_at us
home_slots bs us = map-append slot_at (map {A = Buffer} {B = AtHome} (λ x. Kept x) bs) us ∙ ap (λ (z : List Slot). z ++ map slot_at us) (kept_slots bs)

pub home_listed : {T E : Type 0} (r : Result T E) (bs : List Buffer) (us : List AtHome) (old mid new : List Slot)
    → AddsSlots (map slot_of bs) old mid → AddsOn r (map slot_at us) mid new
    → AddsOn r (map slot_at (map {A = Buffer} {B = AtHome} (λ x. Kept x) bs ++ us)) old new
home_listed r bs us old mid new a b =
    subst (λ z. AddsOn r z old new) (sym (home_slots bs us)) (AddsOn-more r (map slot_of bs) (map slot_at us) old mid new a b)

pub none_listed : {T E : Type 0} (t : T) (old : List Slot) → AddsOn {T = T} {E = E} (Ok t) [] old old
none_listed t old = record { added = []; appended = sym (append-nil old); each = IsPermutation-refl [] }

-- one home more
pub homes_listed : {T E : Type 0} (t : T) (hs : List HomeState) (i : ℕ) (h : HomeState) (old mid new : List Slot) → i < length hs → h ≡ get_or hs i h
    → AddsSlots (map slot_at (flat_map slots_of_home (take i hs))) old mid → AddsOn {T = T} {E = E} (Ok t) (map slot_at h.slots) mid new
    → AddsSlots (map slot_at (flat_map slots_of_home (take (i + 1) hs))) old new
homes_listed {T = T} {E = E} t hs i h old mid new l is a b =
    let front : take (i + 1) hs ≡ take i hs ++ h ∷ [] = take_more hs i h l ∙ ap (λ (z : HomeState). take i hs ++ z ∷ []) (sym is) in
    let slots : map slot_at (flat_map slots_of_home (take (i + 1) hs)) ≡ map slot_at (flat_map slots_of_home (take i hs)) ++ map slot_at h.slots
    = ap (λ (z : List HomeState). map slot_at (flat_map slots_of_home z)) front
    ∙ (ap (map slot_at) (flat_map-append slots_of_home (take i hs) (h ∷ []))
    ∙ (map-append slot_at (flat_map slots_of_home (take i hs)) (h.slots ++ [])
    ∙ ap (λ (z : List AtHome). map slot_at (flat_map slots_of_home (take i hs)) ++ map slot_at z) (append-nil h.slots))) in
    let r : Result T E = Ok t in
    subst (λ z. AddsSlots z old new) (sym slots) (Adds-ok t _ _ _ (AddsOn-more r _ _ old mid new a b))

pub Adds-true : {T E : Type 0} (r : Result T E) (slots old new : List Slot) → is_ok r ≡ true → AddsOn r slots old new → AddsSlots slots old new
Adds-true (Ok t) slots old new e a = Adds-ok t slots old new a
Adds-true (Err x) slots old new e a = absurd (cc)

pub OnOk-true : {T E : Type 0} (r : Result T E) (P : Type 0) → is_ok r ≡ true → OnOk r P → P
OnOk-true (Ok t) P e h = h
OnOk-true (Err x) P e h = absurd (cc)

-- the slots of a cache after others
pub cache_listed : (xs : List Slot) (cached : List Buffer) (old mid new : List Slot) → AddsSlots xs old mid → AddsSlots (map slot_of cached) mid new → AddsSlots (xs ++ map slot_of cached) old new
cache_listed xs cached old mid new a b = record {
  added = a.added ++ b.added;
  appended = b.appended ∙ (ap (λ (z : List Slot). z ++ b.added) a.appended ∙ append_assoc old a.added b.added);
  each = IsPermutation-append _ _ _ _ a.each b.each;
}

-- where the call was refused it does not matter which were added
pub AddsOn-refused : {T E : Type 0} (r : Result T E) (slots added old new : List Slot) → IsErr r → new ≡ old ++ added → AddsOn r slots old new
AddsOn-refused (Ok t) slots added old new e is = absurd (cc)
AddsOn-refused (Err x) slots added old new e is = record { added = added; appended = is; each = tt }

pub AddsOn-refused_more : {T E : Type 0} (r q : Result T E) (slots xs ys old mid new : List Slot) → IsErr r → AddsSlots xs old mid → AddsOn q ys mid new → AddsOn r slots old new
AddsOn-refused_more r q slots xs ys old mid new e a b =
    AddsOn-refused r slots (a.added ++ b.added) old new e (b.appended ∙ (ap (λ (z : List Slot). z ++ b.added) a.appended ∙ append_assoc old a.added b.added))

-- the slots at home alone
pub home_alone : (home : List AtHome) (old new : List Slot) → AddsSlots (map slot_at home) old new → AddsSlots (slots_in home []) old new
home_alone home old new a = subst (λ (z : List Slot). AddsSlots z old new) (sym (append-nil (map slot_at home))) a

-- all homes are listed
pub homes_done : {T E : Type 0} (t : T) (hs : List HomeState) (i : ℕ) (old new : List Slot) → length hs ≤ i → AddsSlots (map slot_at (flat_map slots_of_home (take i hs))) old new
    → AddsOn {T = T} {E = E} (Ok t) (map slot_at (flat_map slots_of_home hs)) old new
homes_done t hs i old new l a =
    let b : AddsSlots (map slot_at (flat_map slots_of_home hs)) old new
    = subst (λ (z : List HomeState). AddsSlots (map slot_at (flat_map slots_of_home z)) old new) (take_all i hs l) a in
    record { added = b.added; appended = b.appended; each = b.each }

-- all places that a cursor has still to give are listed
pub places_done : {T E : Type 0} (t : T) (chunk next left at : ℕ) (old new : List Slot) → next + left ≤ at
    → Adding (places chunk (next + left - next) next) (places chunk (next + left - at) at) old new → AddsOn {T = T} {E = E} (Ok t) (places chunk left next) old new
places_done {T = T} {E = E} t chunk next left at old new l a =
    let all : next + left - next ≡ left = omega arith in
    let none : next + left - at ≡ 0 = omega arith in
    let r : Result T E = Ok t in
    Adding-done r _ (places chunk left next) old new (IsPermutation-refl _) (rw (all, none) at a)
