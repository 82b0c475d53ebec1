-- One key is one queue.
use Rattle.std.proofs.Common.{◌≡◌, ℕ, List, [], ◌∷◌, refl, ap}
use Rattle.std.specs.declared.alloc.Global.{Global}

abbrev first : List ℕ → ℕ
first [] = 0
first (x ∷ xs) = x

abbrev second : List ℕ → ℕ
second [] = 0
second (x ∷ xs) = first xs

abbrev key_of : ℕ × ℕ → List ℕ
key_of w = w.0 ∷ w.1 ∷ []

pub same_web : (w z : ℕ × ℕ) → w.0 ∷ w.1 ∷ [] ≡ z.0 ∷ z.1 ∷ [] → w ≡ z
same_web w z e = λ i. (ap first e i, ap second e i)

pub same_heap : (a b : Global) → a ≡ b
same_heap a b = refl
