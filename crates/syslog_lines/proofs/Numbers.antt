-- Decimal numbers, digit by digit.
use Rattle.std.proofs.Common.{◌≡◌, ℕ, ◌+◌, ◌*◌, ◌/◌, ◌%◌, ◌^◌, ◌<◌, ◌≤◌, List, [], ◌∷◌, ◌++◌, arith, decimal, ap, sym, ◌∙◌}
use Rattle.std.proofs.lemmas.Fmt.{decimal_digit, decimal_step}

-- one digit more
pub decimal_ten : (m d : ℕ) → 0 < m → d < 10 → m < 2 ^ 16 → decimal (10 * m + d) ≡ decimal m ++ ((48 + d) ∷ [])
decimal_ten m d some few small =
    let front : (10 * m + d) / 10 ≡ m = omega arith in
    let last : (10 * m + d) % 10 ≡ d = omega arith in
    decimal_step (10 * m + d) (omega arith) (omega arith)
    ∙ (ap (λ n. decimal n ++ ((48 + (10 * m + d) % 10) ∷ [])) front ∙ ap (λ n. decimal m ++ ((48 + n) ∷ [])) last)

-- a digit alone
pub decimal_one : (n a : ℕ) → n < 10 → a ≡ 48 + n → decimal n ≡ a ∷ []
decimal_one n a few is = decimal_digit n few ∙ ap (λ d. d ∷ []) (sym is)

-- a text of digits, and a digit behind it
pub decimal_more : (m d b : ℕ) (ds : List ℕ) → 0 < m → d < 10 → m < 2 ^ 16 → decimal m ≡ ds → decimal d ≡ b ∷ []
    → decimal (10 * m + d) ≡ ds ++ b ∷ []
decimal_more m d b ds some few small front last =
    let digit : (48 + d) ∷ [] ≡ b ∷ [] = sym (decimal_digit d few) ∙ last in
    decimal_ten m d some few small ∙ (ap (λ t. t ++ ((48 + d) ∷ [])) front ∙ ap (λ t. ds ++ t) digit)
