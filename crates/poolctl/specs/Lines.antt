-- Lines that begin with a word. 32 is a space, 10 the line feed.
use Rattle.std.specs.Prelude.{ℕ, List, [], ◌∷◌, ◌++◌, decimal}

-- a word, and a number behind it
abbrev pub number_line : List ℕ → ℕ → List ℕ
number_line word n = word ++ 32 ∷ decimal n ++ 10 ∷ []

-- a word, and a word behind it
abbrev pub word_line : List ℕ → List ℕ → List ℕ
word_line word other = word ++ 32 ∷ other ++ 10 ∷ []
