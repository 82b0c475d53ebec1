-- What a call does to a buffer's handle.
use Rattle.std.specs.Prelude.{◌≡◌, ◌≢◌, ◌≤◌, ℕ, [], ◌∷◌, Option, Some, None}
use Rattle.region_cut.specs.Classes.{size_of}
use Rattle.slot_chain.specs.Buffer.{Buffer}
use Rattle.seated_desk.specs.Answers.{refusal_number}
use Rattle.seated_desk.specs.Kept.{AtStation, FreesThere, IsSameStation, LendsThere}
use Rattle.seated_desk.specs.declared.allocator_handle.AllocatorHandle.{AllocatorHandle}
use Rattle.seated_desk.specs.declared.buf_handle.BufHandle.{BufHandle}
use Rattle.seated_desk.specs.declared.refusal.Refusal.TheVariants.{Stranger}
use Rattle.seated_desk.specs.declared.station.Station.{Station}

-- the handle holds a buffer
abbrev pub HasBuffer : BufHandle → Type 0
HasBuffer h = (b : Buffer) × (h.buf ≡ Some b)

-- an answer of 0 has put a buffer of at least n bytes into the handle, which held none, and knows this pool now; any
-- other leaves it as it was
pub record Lends (n pool answer : ℕ) (old new : BufHandle) : Type 0 where
  pub lent : answer ≡ 0 → (old.buf ≡ None) × ((b : Buffer) × (new.buf ≡ Some b) × (n ≤ size_of b.class)) × (new.pool ≡ pool)
  pub refused : answer ≢ 0 → new ≡ old

-- just that buffer was lent at the allocator; at any other answer none was
pub record LendsFrom (answer : ℕ) (before after : Station) (new : BufHandle) : Type 0 where
  pub lent : answer ≡ 0 → (b : Buffer) × (new.buf ≡ Some b) × LendsThere (b ∷ []) before after
  pub refused : answer ≢ 0 → IsSameStation before after

-- so does an allocator of its pool
abbrev pub LendsInto : ℕ → ℕ → AllocatorHandle → AllocatorHandle → BufHandle → BufHandle → Type 0
LendsInto n answer before after old new =
    AtStation before.station after.station answer old new (λ s t. LendsFrom answer s t new × Lends n s.pool answer old new)

-- an answer of 0 has taken the handle's buffer out, which is of this pool; any other leaves it there. Another pool's
-- buffer is a stranger
pub record Frees (pool answer : ℕ) (old new : BufHandle) : Type 0 where
  pub taken : answer ≡ 0 → HasBuffer old × (old.pool ≡ pool) × (new.buf ≡ None)
  pub refused : answer ≢ 0 → new ≡ old
  pub stranger : HasBuffer old → old.pool ≢ pool → answer ≡ refusal_number Stranger

-- just that buffer was freed at the allocator; at any other answer none was
pub record FreesFrom (answer : ℕ) (before after : Station) (old : BufHandle) : Type 0 where
  pub freed : answer ≡ 0 → (b : Buffer) × (old.buf ≡ Some b) × FreesThere (b ∷ []) before after
  pub refused : answer ≢ 0 → IsSameStation before after

-- so does an allocator of its pool
abbrev pub TakesOut : ℕ → AllocatorHandle → AllocatorHandle → BufHandle → BufHandle → Type 0
TakesOut answer before after old new =
    AtStation before.station after.station answer old new (λ s t. FreesFrom answer s t old × Frees s.pool answer old new)

-- how many bytes the buffer has that a handle holds, and how many of them are filled; none where it holds none
abbrev pub capacity_in : Option Buffer → ℕ
capacity_in None = 0
capacity_in (Some b) = size_of b.class

abbrev pub filled_in : Option Buffer → ℕ
filled_in None = 0
filled_in (Some b) = b.filled

-- what is told of a handle is this, and the handle stays
abbrev pub TellsCapacity : ℕ → BufHandle → BufHandle → Type 0
TellsCapacity told old new = (told ≡ capacity_in old.buf) × (new ≡ old)

abbrev pub TellsFilled : ℕ → BufHandle → BufHandle → Type 0
TellsFilled told old new = (told ≡ filled_in old.buf) × (new ≡ old)

-- an answer of 0 says of the handle's buffer that n bytes are filled, which it has, and any other leaves it as it was
abbrev pub SetsFilled : ℕ → ℕ → BufHandle → BufHandle → Type 0
SetsFilled n answer old new =
    (answer ≡ 0 → (b : Buffer) × (old.buf ≡ Some b) × (n ≤ size_of b.class) × (new.buf ≡ Some (record b { filled = n })))
    × (answer ≢ 0 → new.buf ≡ old.buf)
