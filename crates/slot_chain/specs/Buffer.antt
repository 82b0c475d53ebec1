-- What a contract sees of a buffer.
use Rattle.std.specs.Prelude.{◌≡◌, ℕ, ◌<◌, ◌≤◌, List, length}
use Rattle.std.specs.Borrow.{MutBor}
use Rattle.region_cut.specs.Classes.{size_of}
use Rattle.region_cut.specs.Endings.{Ended}
use Rattle.region_cut.specs.declared.slot.Slot.{Slot}

-- two buffers are the same where these agree: `filled` is how many bytes, from the front, its user has filled, and
-- `bytes` has the bytes now, and the name that tells the bytes when the borrow ends
pub record Buffer : Type 0 where
  pub slot : Slot
  pub class : ℕ
  pub owner : ℕ
  pub forwards : ℕ
  pub filled : ℕ
  pub bytes : MutBor (List ℕ)

-- the numbers of allocators are below this: of at most 12 bits
abbrev pub owner_limit : ℕ
owner_limit = 4096

-- its owner is the number of an allocator, its slice has the class's size, and no more bytes are filled
abbrev pub IsBuffer : Buffer → Type 0
IsBuffer b = (b.owner < owner_limit) × (length b.bytes.now ≡ size_of b.class) × (b.filled ≤ size_of b.class)

-- where the buffer is let go, its slice ends as the bytes that it has
abbrev pub ended_of : Buffer → Ended
ended_of b = record { name = b.bytes.ghost_name; bytes = b.bytes.now }
