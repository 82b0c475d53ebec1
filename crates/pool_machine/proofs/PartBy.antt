-- Tests of the slots of a list that the machine names, from the list.
use Rattle.std.proofs.Common.{◌≡◌, ℕ, Bool, true, false, ◌&&◌, ◌||◌, ◌==◌, cond, List, [], ◌∷◌, filter, All, Option, Some, None, is_some, option_map, refl, sym, ap, ap₂, ◌∙◌}
use Rattle.std.specs.List.{list_any}
use Rattle.std.proofs.lemmas.Bool.{false≢true, eqb-true, eq-eqb, eqb-false, ne_eqb}
use Rattle.std.proofs.lemmas.List.Elements.{All-head, All-tail}
use Rattle.std.proofs.lemmas.List.Sorted.{list_any-IsPermutation}
use Rattle.region_cut.specs.declared.slot.Slot.{Slot}
use Rattle.region_cut.specs.Slots.{times}
use Rattle.pool_machine.specs.Slots.{one_if}
use Rattle.pool_machine.specs.State.{State, Place, AtHome, OnLoan, InCache, InBatch, owner_of, class_of, slots, home_with, same_place}
use Rattle.pool_machine.specs.Sound.{Sound}
use Rattle.pool_machine.specs.Listing.{slots_seen, Entry}
use Rattle.pool_machine.proofs.Located.{ListName, HomeOf, Loans, list_at, list_of, is_list}
use Rattle.pool_machine.proofs.Listed.{listed}

pub any_same : {A : Type 0} (p q : A → Bool) (xs : List A) → ((x : A) → p x ≡ q x) → list_any p xs ≡ list_any q xs
any_same p q xs e = ap (λ f. list_any f xs) (λ i x. e x i)

pub any_filter : {A : Type 0} (p q : A → Bool) (xs : List A) → list_any q (filter p xs) ≡ list_any (λ x. p x && q x) xs
any_filter p q [] = refl
any_filter {A} p q (x ∷ xs) = go (p x) (any_filter p q xs)
  where
    go : (b : Bool) → list_any q (filter p xs) ≡ list_any (λ y. p y && q y) xs →
        list_any q (cond b (x ∷ filter p xs) (filter p xs)) ≡ ((b && q x) || list_any (λ y. p y && q y) xs)
    go true e = ap (λ z. q x || z) e
    go false e = e

pub any_seen : (q : Slot → Bool) (p : Entry → Bool) (xs : List Entry) → All (λ (e : Entry). p e ≡ q e.slot) xs →
    list_any q (slots_seen xs) ≡ list_any p xs
any_seen q p [] h = refl
any_seen q p (x ∷ xs) h =
    ap₂ ◌||◌ (sym (All-head (λ (e : Entry). p e ≡ q e.slot) x xs h)) (any_seen q p xs (All-tail (λ (e : Entry). p e ≡ q e.slot) x xs h))

pub some_list : (l : ListName) (o : ℕ) (p : Option Place) → is_list l (option_map (list_at o) p) ≡ true → is_some p ≡ true
some_list l o None e = e
some_list l o (Some x) e = refl

-- whether some slot of a list that the machine names passes a test
pub part_any : (st : State) (c : Slot → ℕ) (l : ListName) (p : Entry → Bool) (q r : Slot → Bool) (xs : List Entry) → Sound st c →
    All (λ (e : Entry). p e ≡ q e.slot) xs →
    ((s : Slot) → times s (slots_seen xs) ≡ one_if (is_list l (list_of st s))) →
    ((s : Slot) → r s ≡ is_list l (list_of st s) && q s) →
    list_any r (slots st) ≡ list_any p xs
part_any st c l p q r xs h labels once same =
    any_same r (λ s. is_list l (list_of st s) && q s) (slots st) same
    ∙ (sym (any_filter (λ s. is_list l (list_of st s)) q (slots st))
    ∙ (sym (list_any-IsPermutation q (slots_seen xs) (filter (λ s. is_list l (list_of st s)) (slots st))
    (listed st c (λ s. is_list l (list_of st s)) (slots_seen xs) h
    (λ s e. sym (h.placed s) ∙ some_list l (owner_of st s) (st.place s) e) once))
    ∙ any_seen q p xs labels))

pub eqb_turn : (x y : ℕ) → (x == y) ≡ (y == x)
eqb_turn x y = go (x == y) refl
  where
    go : (b : Bool) → (x == y) ≡ b → b ≡ (y == x)
    go true e = sym (eq-eqb y x (sym (eqb-true x y e)))
    go false e = sym (ne_eqb y x (λ q. eqb-false x y e (sym q)))

pub at_home_is : (a o : ℕ) (p : Option Place) → is_list (HomeOf a) (option_map (list_at o) p) ≡ same_place AtHome p && (o == a)
at_home_is a o None = refl
at_home_is a o (Some AtHome) = eqb_turn a o
at_home_is a o (Some OnLoan) = refl
at_home_is a o (Some (InCache d)) = refl
at_home_is a o (Some (InBatch n)) = refl

pub lent_named : (o : ℕ) (p : Option Place) → is_list Loans (option_map (list_at o) p) ≡ same_place OnLoan p
lent_named o None = refl
lent_named o (Some AtHome) = refl
lent_named o (Some OnLoan) = refl
lent_named o (Some (InCache d)) = refl
lent_named o (Some (InBatch n)) = refl

pub home_with_is : (st : State) (a c : ℕ) (s : Slot) → home_with st a c s ≡ is_list (HomeOf a) (list_of st s) && (class_of st s == c)
home_with_is st a c s =
    together (same_place AtHome (st.place s)) (owner_of st s == a) (class_of st s == c)
    ∙ ap (λ b. b && (class_of st s == c)) (sym (at_home_is a (owner_of st s) (st.place s)))
  where
    together : (x y z : Bool) → (x && (y && z)) ≡ ((x && y) && z)
    together true y z = refl
    together false y z = refl

pub bools_agree : (x y : Bool) → (x ≡ true → y ≡ true) → (y ≡ true → x ≡ true) → x ≡ y
bools_agree true true f g = refl
bools_agree false false f g = refl
bools_agree true false f g = absurd (false≢true (f refl))
bools_agree false true f g = absurd (false≢true (g refl))
