-- What a buffer is filled with.
use Rattle.std.specs.Prelude.{◌≡◌, ℕ, ◌+◌, ◌<◌, List, ◌++◌, Result, MatchResult, length, take, drop}
use Rattle.region_cut.specs.Classes.{size_of}
use Rattle.slot_chain.specs.Buffer.{Buffer}
use Rattle.slot_chain.specs.declared.error.Full.{Full}

-- the bytes that are filled
abbrev pub data_of : Buffer → List ℕ
data_of b = take b.filled b.bytes.now

-- the same buffer, with these bytes, of which the first n are filled
abbrev pub holding : Buffer → List ℕ → ℕ → Buffer
holding b bs n = record b { filled = n; bytes = record b.bytes { now = bs } }

-- the same buffer, of which nothing is filled
abbrev pub emptied : Buffer → Buffer
emptied b = record b { filled = 0 }

-- xs once bs were written over them from place i on
abbrev pub overwritten : List ℕ → ℕ → List ℕ → List ℕ
overwritten xs i bs = take i xs ++ bs ++ drop (i + length bs) xs

-- bs come behind what was filled, and nothing else changes
pub record Appends (old : Buffer) (bs : List ℕ) (new : Buffer) : Type 0 where
  pub appended : data_of new ≡ data_of old ++ bs
  pub same : new ≡ holding old (overwritten old.bytes.now old.filled bs) (old.filled + length bs)

-- either all of bs come behind what was filled, or there is no room for all of them, and nothing changes
abbrev pub Extends : Buffer → List ℕ → Result (Unit {0}) Full → Buffer → Type 0
Extends old bs result new = MatchResult result
    (λ _. Appends old bs new)
    (λ _. (size_of old.class < old.filled + length bs) × (new ≡ old))
