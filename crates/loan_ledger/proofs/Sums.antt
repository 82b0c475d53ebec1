-- Sums of weights.
use Rattle.std.proofs.Common.{◌≡◌, ℕ, ◌+◌, List, [], ◌∷◌, ◌++◌, arith}
use Rattle.loan_ledger.specs.Weights.{weigh}

pub weigh-append : {A : Type 0} (h : A → ℕ) (xs ys : List A) → weigh h (xs ++ ys) ≡ weigh h xs + weigh h ys
weigh-append h [] ys = omega arith
weigh-append h (x ∷ xs) ys = let i = weigh-append h xs ys in omega arith

pub weigh-snoc : {A : Type 0} (h : A → ℕ) (xs : List A) (x : A) → weigh h (xs ++ x ∷ []) ≡ weigh h xs + h x
weigh-snoc h xs x = let e = weigh-append h xs (x ∷ []) in omega arith
