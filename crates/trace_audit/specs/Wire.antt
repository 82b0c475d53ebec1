-- What a write comes to.
use Rattle.std.specs.Prelude.{ℕ, ◌≡◌, ◌==◌, ◌&&◌, ◌++◌, Bool, true, false, not, List, length, Option, Result, Ok}
use Rattle.std.specs.Prelude.{Err, MatchResult}
use Rattle.std.specs.Io.KnownBytes.{Appends}

-- a write failed, or took nothing of a piece that isn't empty
abbrev pub gave_up : {E : Type 0} → Result ℕ E → List ℕ → Bool
gave_up (Ok n) piece = (n == 0) && not (length piece == 0)
gave_up (Err e) piece = true

-- known bytes grew by a beginning of the text
abbrev pub Begins : Option (List ℕ) → Option (List ℕ) → List ℕ → Type 0
Begins old new text = (front : List ℕ) × (back : List ℕ) × (text ≡ front ++ back) × Appends old new front

-- all of the text was written; or a beginning of it, and the sink gave up
abbrev pub Writes : {E : Type 0} → Option (List ℕ) → Option (List ℕ) → Bool → List ℕ → Result (Unit {0}) E → Type 0
Writes old new failed text r =
    MatchResult r (λ _. Appends old new text × (failed ≡ false)) (λ _. Begins old new text × (failed ≡ true))
