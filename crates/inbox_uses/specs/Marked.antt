-- Numbers at the front of buffers.
use Rattle.std.specs.Prelude.{◌≡◌, ℕ, ◌+◌, ◌*◌, List, Any, slice_index_or}
use Rattle.slot_chain.specs.Buffer.{Buffer}

-- the number in the first two bytes, the low one first
abbrev pub front_number : List ℕ → ℕ
front_number bytes = slice_index_or bytes 0 0 + 256 * slice_index_or bytes 1 0

-- one of these buffers has this number at its front
abbrev pub HasMark : ℕ → List Buffer → Type 0
HasMark n items = Any (λ (b : Buffer). front_number b.bytes.now ≡ n) items
