-- What a call does to a pool's shelf.
use Rattle.std.specs.Prelude.{◌≡◌, ◌≢◌, ◌<◌, ◌+◌, ℕ, List, [], ◌∷◌, ◌++◌, Some, None, length, slice_get}
use Rattle.seated_desk.specs.Answers.{refusal_number}
use Rattle.seated_desk.specs.Kept.{KeepsStation}
use Rattle.seated_desk.specs.Settled.{IsAudited}
use Rattle.seated_desk.specs.declared.station.Station.{Station}
use Rattle.seated_desk.specs.declared.pool.Pool.{Pool}
use Rattle.seated_desk.specs.declared.allocator_handle.AllocatorHandle.{AllocatorHandle}
use Rattle.seated_desk.specs.declared.refusal.Refusal.TheVariants.{Stranger}

-- the desks of this pool are numbered from 0, the last first, as far as there are some; each knows the pool
abbrev pub AreNumbered : (pool many : ℕ) → List Station → Type 0
AreNumbered pool many shelf = (k : ℕ) (s : Station) → slice_get shelf k ≡ Some s → (s.desk.number + k + 1 ≡ many) × (s.pool ≡ pool)

-- an answer of 0 has opened the pool of this number, whose desks have numbers of their own; any other leaves it as it
-- was
abbrev pub Opens : ℕ → ℕ → Pool → Pool → Type 0
Opens number answer old new =
    (answer ≡ 0 → (old.allocators ≡ 0) × (new.number ≡ number) × (length new.shelf.items ≡ new.allocators)
    × AreNumbered number new.allocators new.shelf.items)
    × (answer ≢ 0 → new ≡ old)

-- but for its shelf the pool is the same
pub record IsSamePool (old new : Pool) : Type 0 where
  pub number : new.number ≡ old.number
  pub allocators : new.allocators ≡ old.allocators
  pub fault : new.fault ≡ old.fault

-- an answer of 0 has moved the last station of the shelf into the handle; any other leaves both as they were
pub record HandsOut (answer : ℕ) (old new : Pool) (before after : AllocatorHandle) : Type 0 where
  pub moved : answer ≡ 0 → (s : Station) × (before.station ≡ None) × (after.station ≡ Some s) × (old.shelf.items ≡ new.shelf.items ++ s ∷ [])
  pub refused : answer ≢ 0 → (new.shelf.items ≡ old.shelf.items) × (after ≡ before)
  pub pool : IsSamePool old new

-- an answer of 0 has moved the handle's station to the end of the shelf of its pool, where its slots may lie elsewhere;
-- any other leaves the shelf. Another pool's station is a stranger
pub record TakesBack (answer : ℕ) (old new : Pool) (before after : AllocatorHandle) : Type 0 where
  pub moved : answer ≡ 0 → (s : Station) × (t : Station) × (before.station ≡ Some s) × (after.station ≡ None)
      × (s.pool ≡ old.number) × (new.shelf.items ≡ old.shelf.items ++ t ∷ []) × KeepsStation s t
  pub refused : answer ≢ 0 → new.shelf.items ≡ old.shelf.items
  pub pool : IsSamePool old new
  pub stranger : (s : Station) → before.station ≡ Some s → s.pool ≢ old.number
      → (answer ≡ refusal_number Stranger) × (after ≡ before)

-- an answer of 0 is that of the audit, and closes the pool
abbrev pub Closes : ℕ → Pool → Pool → Type 0
Closes answer old new =
    (answer ≡ 0 → IsAudited old.shelf.items × (new.allocators ≡ 0) × (new.shelf.items ≡ []))
    × (0 < answer → answer < 100 → new ≡ old)
