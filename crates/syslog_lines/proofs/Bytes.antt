-- A number in eight bytes, ahead of others.
use Rattle.std.proofs.Common.{◌≡◌, ℕ, ◌+◌, ◌<◌, ◌≤◌, List, ◌++◌, length, get_or, take, drop, ap, sym, subst, ◌∙◌, arith, w64, Fits, w8}
use Rattle.std.specs.Int.{from_le_bytes, to_le_bytes}
use Rattle.std.proofs.lemmas.List.{take-append-drop, length-take-le}
use Rattle.std.proofs.lemmas.Nat.{le_bytes_8}
use Rattle.std.proofs.lemmas.Grind.{common_steps}

taken_fits : (bytes : List ℕ) → ((i : ℕ) → Fits w8 (get_or bytes i 0)) → (i : ℕ) → get_or (take 8 bytes) i 0 < 256
taken_fits bytes fits i = let h : Fits w8 (get_or bytes i 0) = fits i in grind (arith, common_steps)

pub number_ahead : (bytes first rest : List ℕ) (n : ℕ) → ((i : ℕ) → Fits w8 (get_or bytes i 0))
    → n ≡ from_le_bytes w64 first → first ≡ take 8 bytes → rest ≡ drop 8 bytes → 8 ≤ length bytes
    → bytes ≡ to_le_bytes w64 n ++ rest
number_ahead bytes first rest n fits is front back long =
    let whole : take 8 bytes ++ drop 8 bytes ≡ bytes = take-append-drop 8 bytes in
    let same : n ≡ from_le_bytes w64 (take 8 bytes) = is ∙ ap (from_le_bytes w64) front in
    let number : to_le_bytes w64 n ≡ take 8 bytes =
    le_bytes_8 (take 8 bytes) n (length-take-le 8 bytes long) (taken_fits bytes fits) same in
    sym whole ∙ (ap (λ t. t ++ drop 8 bytes) (sym number) ∙ ap (λ t. to_le_bytes w64 n ++ t) (sym back))
