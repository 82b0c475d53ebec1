-- Sums of weights.
use Rattle.std.proofs.Common.{◌≡◌, ℕ, ◌+◌, List, [], ◌∷◌, length, map, refl, sym, ap, ◌∙◌, arith, IsPermutation, Bool, true, false}
use Rattle.std.specs.Prelude.{not, cond}
use Rattle.std.specs.List.{filter}
use Rattle.std.proofs.lemmas.List.Recursion.{is_sum_by}
use Rattle.std.proofs.lemmas.List.Sorted.{sum_by-IsPermutation}
use Rattle.slot_balance.specs.Weights.{weigh}
pub use Rattle.loan_ledger.proofs.Sums.{weigh-append, weigh-snoc}

pub weigh-permutation : {A : Type 0} (f : A → ℕ) (xs ys : List A) → IsPermutation xs ys → weigh f ys ≡ weigh f xs
weigh-permutation f xs ys p =
    is_sum_by (weigh f) f refl (λ _ _. refl) ys ∙ sum_by-IsPermutation f xs ys p ∙ sym (is_sum_by (weigh f) f refl (λ _ _. refl) xs)

-- a weight of 1 counts
pub weigh-ones : {A : Type 0} (xs : List A) → weigh (λ _. 1) xs ≡ length xs
weigh-ones [] = refl
weigh-ones (x ∷ xs) = let i = weigh-ones xs in omega arith

pub weigh-map : {A B : Type 0} (f : B → ℕ) (g : A → B) (xs : List A) → weigh f (map g xs) ≡ weigh (λ x. f (g x)) xs
weigh-map f g [] = refl
weigh-map f g (x ∷ xs) = ap (λ n. f (g x) + n) (weigh-map f g xs)

split_more : (b : Bool) (n a c whole : ℕ) → a + c ≡ whole → {A : Type 0} → (f : A → ℕ) (x : A) (p q : List A) → weigh f p ≡ a → weigh f q ≡ c → n ≡ f x
    → weigh f (cond b (x ∷ p) p) + weigh f (cond (not b) (x ∷ q) q) ≡ n + whole
split_more true n a c whole e f x p q i j k = omega arith
split_more false n a c whole e f x p q i j k = omega arith

-- a list in two parts, by a test
pub weigh-split : {A : Type 0} (f : A → ℕ) (t : A → Bool) (xs : List A) → weigh f (filter t xs) + weigh f (filter (λ x. not (t x)) xs) ≡ weigh f xs
weigh-split f t [] = refl
weigh-split f t (x ∷ xs) = split_more (t x) (f x) _ _ (weigh f xs) (weigh-split f t xs) f x _ _ refl refl refl
