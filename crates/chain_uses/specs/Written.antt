-- A buffer after something was written to it.
use Rattle.std.specs.Prelude.{◌≡◌, ℕ, List, [], ◌∷◌, ◌++◌, slice_set}
use Rattle.slot_chain.specs.Buffer.{Buffer}
use Rattle.slot_chain.specs.Loans.{with_bytes_now}

-- the same buffer, with this first byte
abbrev pub marked : Buffer → ℕ → Buffer
marked b byte = with_bytes_now b (slice_set b.bytes.now 0 byte)

-- the last buffer of the list has this first byte, and all else of the list stays
abbrev pub MarksTop : List Buffer → List Buffer → ℕ → Type 0
MarksTop old new byte =
    (rest : List Buffer) × (b : Buffer) × (old ≡ rest ++ b ∷ []) × (new ≡ rest ++ marked b byte ∷ [])
