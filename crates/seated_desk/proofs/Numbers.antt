-- The parts of a cut, by their numbers.
use Rattle.std.proofs.Common.{◌≡◌, ℕ, zero, suc, ◌+◌, List, [], ◌∷◌, length, map, refl, sym, ap, ◌∙◌, drop, arith}
use Rattle.std.specs.Prelude.{Some, slice_get, slice_index}
use Rattle.region_cut.specs.Parts.{number_of, numbers_from}
use Rattle.region_cut.specs.declared.part.Part.{Part}

pub length-numbers : (k n : ℕ) → length (numbers_from k n) ≡ n
length-numbers k zero = refl
length-numbers k (suc n) = ap suc (length-numbers (k + 1) n)

number_at : (ps : List Part) (k n i : ℕ) (p : Part) → map number_of ps ≡ numbers_from k n → slice_get ps i ≡ Some p → p.chunk ≡ k + i
number_at [] k n i p e at = absurd (cc)
number_at (q ∷ ps) k zero i p e at = absurd (cc)
number_at (q ∷ ps) k (suc n) zero p e at =
    let s : q ≡ p = cc in
    ap (λ (x : Part). x.chunk) (sym s) ∙ ap (λ l. slice_index l 0) e ∙ (let z : k ≡ k + 0 = omega arith in z)
number_at (q ∷ ps) k (suc n) (suc i) p e at = number_at ps (k + 1) n i p (ap (drop 1) e) at ∙ (let z : k + 1 + i ≡ k + suc i = omega arith in z)

pub numbered_at : (ps : List Part) (k n i : ℕ) (p : Part) → map number_of ps ≡ numbers_from 0 n → slice_get ps i ≡ Some p → p.chunk ≡ i
numbered_at ps k n i p e at = number_at ps 0 n i p e at ∙ (let z : 0 + i ≡ i = omega arith in z)
