-- Lists behind a map, and lists of which some elements are left out.
use Rattle.std.proofs.Common.{◌≡◌, ◌≢◌, ℕ, zero, suc, ◌<◌, Bool, true, false, ◌||◌, cond, List, [], ◌∷◌, ◌++◌, map, filter, length, get_or, set, All, refl, sym, ap, ap₂, ◌∙◌, subst, arith, ⊎_elim, eqb, append_assoc, IsPermutation}
use Rattle.std.specs.Prelude.{Any}
use Rattle.std.specs.List.{list_any, flat_map, swap}
use Rattle.std.proofs.lemmas.List.{length-set, length-map, set-get_or, set-set, set_comm, get_or-map}
use Rattle.std.proofs.lemmas.List.Edits.{swap_is}
use Rattle.std.proofs.lemmas.List.Sorted.{IsPermutation-refl, IsPermutation-sym, IsPermutation-trans, IsPermutation-append_left, IsPermutation-append_right, IsPermutation-append_comm, IsPermutation-keeps}
use Rattle.std.proofs.lemmas.List.Elements.{All-nil, All-cons, All-head, All-tail}
use Rattle.std.proofs.lemmas.Bool.Decides.{eqb_tells}

module _ {X Y : Type 0} (f : X → Y) where
  -- an element of the mapped list, also behind its end
  pub get_or-map_default : (xs : List X) (i : ℕ) (d : X) → get_or (map f xs) i (f d) ≡ f (get_or xs i d)
  get_or-map_default [] zero d = refl
  get_or-map_default [] (suc i) d = refl
  get_or-map_default (x ∷ xs) zero d = refl
  get_or-map_default (x ∷ xs) (suc i) d = get_or-map_default xs i d

  pub set-map : (xs : List X) (i : ℕ) (x : X) → map f (set xs i x) ≡ set (map f xs) i (f x)
  set-map [] zero x = refl
  set-map [] (suc i) x = refl
  set-map (y ∷ xs) zero x = refl
  set-map (y ∷ xs) (suc i) x = ap (λ l. f y ∷ l) (set-map xs i x)

  pub filter-map : (p : Y → Bool) (xs : List X) → filter p (map f xs) ≡ map f (filter (λ x. p (f x)) xs)
  filter-map p [] = refl
  filter-map p (x ∷ xs) = go (p (f x)) (filter-map p xs)
    where
      go : (b : Bool) → filter p (map f xs) ≡ map f (filter (λ y. p (f y)) xs)
          → cond b (f x ∷ filter p (map f xs)) (filter p (map f xs)) ≡ map f (cond b (x ∷ filter (λ y. p (f y)) xs) (filter (λ y. p (f y)) xs))
      go true e = ap (λ l. f x ∷ l) e
      go false e = e

  pub any-map : (p : Y → Bool) (xs : List X) → list_any p (map f xs) ≡ list_any (λ x. p (f x)) xs
  any-map p [] = refl
  any-map p (x ∷ xs) = ap (λ b. p (f x) || b) (any-map p xs)

module _ {X : Type 0} where
  swap_front : (xs ys zs : List X) → IsPermutation (xs ++ (ys ++ zs)) (ys ++ (xs ++ zs))
  swap_front xs ys zs = rw (← append_assoc xs ys zs, ← append_assoc ys xs zs) (IsPermutation-append_left zs _ _ (IsPermutation-append_comm xs ys))

  abbrev joined : List (List X) → List X
  joined xss = flat_map (λ x. x) xss

  set_apart : (xss : List (List X)) (k : ℕ) (ys : List X) → k < length xss → IsPermutation (joined (set xss k ys)) (ys ++ joined (set xss k []))
  set_apart [] k ys h = absurd (omega arith)
  set_apart (x ∷ xss) zero ys h = IsPermutation-refl _
  set_apart (x ∷ xss) (suc k) ys h =
      IsPermutation-trans _ _ _ (IsPermutation-append_right x _ _ (set_apart xss k ys (omega arith))) (swap_front x ys _)

  -- two of the lists apart from the others
  both_apart : (xss : List (List X)) (i j : ℕ) (xs ys : List X) → i < length xss → j < length xss → j ≢ i
      → IsPermutation (joined (set (set xss i xs) j ys)) (ys ++ (xs ++ joined (set (set xss i []) j [])))
  both_apart xss i j xs ys l m ne =
      IsPermutation-trans _ _ _ (set_apart (set xss i xs) j ys (rw (length-set xss i xs) m))
      (IsPermutation-append_right ys _ _
      (subst (λ z. IsPermutation (joined z) (xs ++ joined (set (set xss i []) j []))) (sym (set_comm xss i j xs [] (λ e. ne (sym e))))
      (subst (λ z. IsPermutation (joined (set (set xss j []) i xs)) (xs ++ joined z)) (sym (set_comm xss i j [] [] (λ e. ne (sym e))))
      (set_apart (set xss j []) i xs (rw (length-set xss j []) l)))))

  exchanged : (xss : List (List X)) (i j : ℕ) → i < length xss → j < length xss
      → IsPermutation (joined (set (set xss i (get_or xss j [])) j (get_or xss i []))) (joined xss)
  exchanged xss i j l m = ⊎_elim same other (eqb_tells j i)
    where
      same : (eqb j i ≡ true) × (j ≡ i) → IsPermutation (joined (set (set xss i (get_or xss j [])) j (get_or xss i []))) (joined xss)
      same e =
          subst (λ n. IsPermutation (joined (set (set xss i (get_or xss n [])) n (get_or xss i []))) (joined xss)) (sym e.1)
          (rw (set-set xss i (get_or xss i []) (get_or xss i []), set-get_or xss i []) (IsPermutation-refl (joined xss)))

      unchanged : j ≢ i → set (set xss i (get_or xss i [])) j (get_or xss j []) ≡ xss
      unchanged ne = ap (λ z. set z j (get_or xss j [])) (set-get_or xss i []) ∙ set-get_or xss j []

      other : (eqb j i ≡ false) × (j ≢ i) → IsPermutation (joined (set (set xss i (get_or xss j [])) j (get_or xss i []))) (joined xss)
      other e =
          let rest = joined (set (set xss i []) j []) in
          IsPermutation-trans _ _ _ (both_apart xss i j (get_or xss j []) (get_or xss i []) l m e.1)
          (IsPermutation-trans _ _ _ (swap_front (get_or xss i []) (get_or xss j []) rest)
          (subst (λ z. IsPermutation (get_or xss j [] ++ (get_or xss i [] ++ rest)) (joined z)) (unchanged e.1)
          (IsPermutation-sym _ _ (both_apart xss i j (get_or xss i []) (get_or xss j []) l m e.1))))

module _ {X : Type 0} (p : X → Bool) where
  abbrev one : X → List X
  one x = cond (p x) (x ∷ []) []

  filter_joined : (xs : List X) → filter p xs ≡ flat_map (λ x. x) (map one xs)
  filter_joined [] = refl
  filter_joined (x ∷ xs) = go (p x) (filter_joined xs)
    where
      go : (b : Bool) → filter p xs ≡ flat_map (λ x. x) (map one xs) → cond b (x ∷ filter p xs) (filter p xs) ≡ cond b (x ∷ []) [] ++ flat_map (λ x. x) (map one xs)
      go true e = ap (λ l. x ∷ l) e
      go false e = e

  exchange_kept : (l : List X) (i j : ℕ) → i < length l → j < length l → IsPermutation (filter p (swap l i j)) (filter p l)
  exchange_kept [] i j a b = absurd (omega arith)
  exchange_kept (d ∷ l) i j a b =
      let xss = map one (d ∷ l) in
      let e : map one (swap (d ∷ l) i j) ≡ set (set xss i (get_or xss j [])) j (get_or xss i []) =
      ap (map one) (sym (swap_is (d ∷ l) i j d a b))
      ∙ (set-map one (set (d ∷ l) i (get_or (d ∷ l) j d)) j (get_or (d ∷ l) i d)
      ∙ ap₂ (λ (x : List (List X)) (y : List X). set x j y) (set-map one (d ∷ l) i (get_or (d ∷ l) j d) ∙ ap (set xss i) (sym (get_or-map one (d ∷ l) j d [] b)))
      (sym (get_or-map one (d ∷ l) i d [] a))) in
      subst (λ z. IsPermutation z (filter p (d ∷ l))) (sym (filter_joined (swap (d ∷ l) i j) ∙ ap (flat_map (λ x. x)) e))
      (subst (λ z. IsPermutation (flat_map (λ x. x) (set (set xss i (get_or xss j [])) j (get_or xss i []))) z) (sym (filter_joined (d ∷ l)))
      (exchanged xss i j (rw (length-map (d ∷ l) one) a) (rw (length-map (d ∷ l) one) b)))

  pub filter-permutation : (xs ys : List X) → IsPermutation xs ys → IsPermutation (filter p xs) (filter p ys)
  filter-permutation xs ys h = IsPermutation-keeps xs (λ l. IsPermutation (filter p xs) (filter p l)) (IsPermutation-refl _)
      (λ l i j a b k. IsPermutation-trans _ _ _ k (IsPermutation-sym _ _ (exchange_kept l i j a b))) ys h

  pub filter-append : (xs ys : List X) → filter p (xs ++ ys) ≡ filter p xs ++ filter p ys
  filter-append [] ys = refl
  filter-append (x ∷ xs) ys = go (p x) (filter-append xs ys)
    where
      go : (b : Bool) → filter p (xs ++ ys) ≡ filter p xs ++ filter p ys → cond b (x ∷ filter p (xs ++ ys)) (filter p (xs ++ ys)) ≡ cond b (x ∷ filter p xs) (filter p xs) ++ filter p ys
      go true e = ap (λ l. x ∷ l) e
      go false e = e

  pub filter_kept : (xs : List X) → All (λ x. p x ≡ true) xs → filter p xs ≡ xs
  filter_kept [] h = refl
  filter_kept (x ∷ xs) h = ap (λ b. cond b (x ∷ filter p xs) (filter p xs)) (h 0 x (omega arith)) ∙ ap (λ l. x ∷ l) (filter_kept xs (λ k d l. h (suc k) d (omega (arith, l))))

  pub filter_gone : (xs : List X) → All (λ x. p x ≡ false) xs → filter p xs ≡ []
  filter_gone [] h = refl
  filter_gone (x ∷ xs) h = ap (λ b. cond b (x ∷ filter p xs) (filter p xs)) (h 0 x (omega arith)) ∙ filter_gone xs (λ k d l. h (suc k) d (omega (arith, l)))

module _ {X : Type 0} where
  -- an element of the list, whatever stands behind its end
  pub get_or_same : (xs : List X) (k : ℕ) (d e : X) → k < length xs → get_or xs k d ≡ get_or xs k e
  get_or_same [] k d e l = absurd (omega arith)
  get_or_same (x ∷ xs) zero d e l = refl
  get_or_same (x ∷ xs) (suc k) d e l = get_or_same xs k d e (omega arith)

  pub All-not-from_Any : (P : X → Type 0) (xs : List X) → (Any P xs → ⊥) → All (λ x. P x → ⊥) xs
  All-not-from_Any P xs f = λ k d l p. f (k, get_or xs k d, l, get_or_same xs k (get_or xs k d) d l, p)

pub All-first : {X : Type 0} (P : X → Type 0) (xs ys : List X) → All P (xs ++ ys) → All P xs
All-first P [] ys h = All-nil P
All-first P (x ∷ xs) ys h = All-cons P x xs (All-head P x (xs ++ ys) h) (All-first P xs ys (All-tail P x (xs ++ ys) h))

pub All-second : {X : Type 0} (P : X → Type 0) (xs ys : List X) → All P (xs ++ ys) → All P ys
All-second P [] ys h = h
All-second P (x ∷ xs) ys h = All-second P xs ys (All-tail P x (xs ++ ys) h)
