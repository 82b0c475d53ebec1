-- Of several, those that come first have something.
use Rattle.std.specs.Prelude.{◌≡◌, ℕ, zero, suc, List, [], ◌∷◌, Option, None, IsSome}

-- each of the first n has one, and no other has
abbrev pub FirstHave : {A B : Type 0} → (A → Option B) → ℕ → List A → Type 0
FirstHave one n [] = Unit {0}
FirstHave one zero (x ∷ xs) = (one x ≡ None) × FirstHave one zero xs
FirstHave one (suc n) (x ∷ xs) = IsSome (one x) × FirstHave one n xs
