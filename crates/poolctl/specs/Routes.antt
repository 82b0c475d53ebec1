-- What the subcommand `route` prints. 32 is a space, 10 the line feed.
use Rattle.std.specs.Prelude.{ℕ, zero, suc, List, [], ◌∷◌, ◌++◌, codes, decimal}
use Rattle.digit_route.specs.Digits.{Scheme, digit, count, common}
use Rattle.poolctl.specs.Lines.{number_line}

-- the first n digits of a number, the least first, each behind a space
abbrev pub digit_words : Scheme → ℕ → ℕ → List ℕ
digit_words s x zero = []
digit_words s x (suc n) = digit_words s x n ++ 32 ∷ decimal (digit s x n)

-- a word, and all digits of a number behind it
abbrev pub digits_line : List ℕ → Scheme → ℕ → List ℕ
digits_line word s x = word ++ digit_words s x (count s) ++ 10 ∷ []

-- how many digits there are, those of the two numbers, and how many they share
abbrev pub route_text : Scheme → ℕ → ℕ → List ℕ
route_text s from owner =
    number_line (codes "digits") (count s) ++ digits_line (codes "from") s from ++ digits_line (codes "owner") s owner
    ++ number_line (codes "common") (common s from owner)
