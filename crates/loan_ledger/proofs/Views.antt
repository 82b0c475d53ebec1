-- Lists of what tokens show, weighed: one is set, one is bounded, one has all.
use Rattle.std.proofs.Common.{◌≡◌, ℕ, zero, suc, ◌+◌, ◌≤◌, List, [], ◌∷◌, set, refl, sym, ap, arith}
use mathlib.Core.Option.{some, some-ne-none, some-injective}
use lib.ListN.{get_elem?}
use Rattle.loan_ledger.specs.Weights.{weigh}

module _ {A : Type 0} where
  pub weigh_set : (f : A → ℕ) (views : List A) (at : ℕ) (v w : A) → get_elem? views at ≡ some v → weigh f (set views at w) + f v ≡ weigh f views + f w
  weigh_set f [] at v w e = absurd (some-ne-none v (sym e))
  weigh_set f (x ∷ xs) zero v w e = let h = ap f (some-injective x v e) in omega arith
  weigh_set f (x ∷ xs) (suc k) v w e = let i = weigh_set f xs k v w e in omega arith

  pub weighs_less : (f : A → ℕ) (views : List A) (at : ℕ) (v : A) → get_elem? views at ≡ some v → f v ≤ weigh f views
  weighs_less f [] at v e = absurd (some-ne-none v (sym e))
  weighs_less f (x ∷ xs) zero v e = let h = ap f (some-injective x v e) in omega arith
  weighs_less f (x ∷ xs) (suc k) v e = let i = weighs_less f xs k v e in omega arith

-- where who has no part weighs nothing
module _ {A : Type 0} (parts f : A → ℕ) where
  none_has : (views : List A) → weigh parts views ≡ 0 → ((j : ℕ) (u : A) → get_elem? views j ≡ some u → parts u ≡ 0 → f u ≡ 0) → weigh f views ≡ 0
  none_has [] empty z = refl
  none_has (x ∷ xs) empty z =
      let mine = z 0 x refl (omega arith) in
      let i = none_has xs (omega arith) (λ j u e. z (suc j) u e) in
      omega arith

  -- who has every part weighs what all weigh
  pub weighs_all : (views : List A) (at : ℕ) (v : A) → get_elem? views at ≡ some v → weigh parts views ≡ parts v
      → ((j : ℕ) (u : A) → get_elem? views j ≡ some u → parts u ≡ 0 → f u ≡ 0) → weigh f views ≡ f v
  weighs_all [] at v e all z = absurd (some-ne-none v (sym e))
  weighs_all (x ∷ xs) zero v e all z =
      let same = some-injective x v e in
      let p = ap parts same in
      let q = ap f same in
      let i = none_has xs (omega arith) (λ j u h. z (suc j) u h) in
      omega arith
  weighs_all (x ∷ xs) (suc k) v e all z =
      let l = weighs_less parts xs k v e in
      let mine = z 0 x refl (omega arith) in
      let i = weighs_all xs k v e (omega arith) (λ j u h. z (suc j) u h) in
      omega arith
