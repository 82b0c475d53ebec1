-- What the numbers about a pool and an allocator are.
use Rattle.std.specs.Prelude.{◌≡◌, ◌≢◌, ◌<◌, ◌≤◌, ◌+◌, ◌-◌, ◌%◌, ◌^◌, ℕ, Some, None, Option, length}
use Rattle.slot_chain.specs.Counts.{capped, sizes}
use Rattle.slot_balance.specs.Limits.{most_taken}
use Rattle.seated_desk.specs.Answers.{refusal_number}
use Rattle.seated_desk.specs.Kept.{AtStation, KeepsStation, PostsAll}
use Rattle.seated_desk.specs.declared.allocator_handle.AllocatorHandle.{AllocatorHandle}
use Rattle.seated_desk.specs.declared.pool.Pool.{Pool}
use Rattle.seated_desk.specs.declared.refusal.Refusal.TheVariants.{Empty}
use Rattle.seated_desk.specs.declared.station.Station.{Station}

-- what is told where there is nothing to tell
abbrev pub no_number : ℕ
no_number = 2 ^ 64 - 1

-- the number about a station that this is
pub record IsStatOf (which told : ℕ) (s : Station) : Type 0 where
  pub number : which ≡ 0 → told ≡ s.desk.number
  pub lent : which ≡ 1 → told ≡ length s.lent % 2 ^ 64
  pub freed : which ≡ 2 → told ≡ length s.freed % 2 ^ 64
  pub posted : which ≡ 3 → told ≡ s.posted
  pub taken : which ≡ 4 → told ≡ s.taken
  pub claimed : which ≡ 5 → told ≡ s.claimed
  pub home : which ≡ 6 → told ≡ capped (length s.desk.home)
  pub cached : which ≡ 7 → told ≡ capped (length s.desk.cached)
  pub bytes : which ≡ 8 → told ≡ capped (sizes s.desk.cached)
  pub none : 9 < which → told ≡ no_number

abbrev pub StatIn : ℕ → ℕ → Option Station → Type 0
StatIn which told None = told ≡ no_number
StatIn which told (Some s) = IsStatOf which told s

-- what is told of an allocator is this, and the allocator stays
abbrev pub TellsStat : ℕ → ℕ → AllocatorHandle → AllocatorHandle → Type 0
TellsStat which told old new = StatIn which told old.station × (new ≡ old)

-- what is told of a pool is this, and the pool stays
pub record TellsPoolStat (which told : ℕ) (old new : Pool) : Type 0 where
  pub allocators : which ≡ 0 → told ≡ old.allocators
  pub here : which ≡ 1 → told ≡ length old.shelf.items
  pub fault : which ≡ 2 → told ≡ old.fault
  pub none : 2 < which → told ≡ no_number
  pub stays : new ≡ old

-- An allocator is kept, but for where slots are: it took what came, and then posted all that was cached.
pub record FlushesAt (answer : ℕ) (old new : Station) : Type 0 where
  pub answer_is : answer ≡ 0
  pub between : Station
  pub takes : KeepsStation old between
  pub keeps : KeepsStation between new
  pub posts : PostsAll between new

abbrev pub Flushes : ℕ → AllocatorHandle → AllocatorHandle → Type 0
Flushes answer old new = AtStation old.station new.station answer old new (λ s t. FlushesAt answer s t)

-- An allocator is kept, but for where slots are. At an answer of 0 one to 64 batches came, as the counter of 64 bits
-- tells; and at any other none, so its slots are where they were.
pub record CollectsAt (answer : ℕ) (old new : Station) : Type 0 where
  pub keeps : KeepsStation old new
  pub came : answer ≡ 0 → (n : ℕ) × (0 < n) × (n ≤ most_taken) × (new.taken % 2 ^ 64 ≡ (old.taken + n) % 2 ^ 64)
  pub nothing_came : answer ≢ 0 → (answer ≡ refusal_number Empty) × (new.desk ≡ old.desk)

abbrev pub Collects : ℕ → AllocatorHandle → AllocatorHandle → Type 0
Collects answer old new = AtStation old.station new.station answer old new (λ s t. CollectsAt answer s t)
