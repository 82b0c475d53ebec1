-- What a call does to a burst.
use Rattle.std.specs.Prelude.{◌≡◌, ◌≢◌, ◌≤◌, ℕ, List, [], ◌∷◌, ◌++◌, Option, Some, None, All, length, slice_get}
use Rattle.region_cut.specs.Classes.{size_of}
use Rattle.slot_chain.specs.Buffer.{Buffer}
use Rattle.slot_chain.specs.Parcels.{ParcelState, Packs}
use Rattle.seated_desk.specs.Answers.{refusal_number}
use Rattle.seated_desk.specs.Handles.{HasBuffer}
use Rattle.seated_desk.specs.Kept.{AtStation, FreesThere, IsSameStation, LendsBurst}
use Rattle.seated_desk.specs.declared.allocator_handle.AllocatorHandle.{AllocatorHandle}
use Rattle.seated_desk.specs.declared.buf_handle.BufHandle.{BufHandle}
use Rattle.seated_desk.specs.declared.burst_handle.BurstHandle.{BurstHandle}
use Rattle.seated_desk.specs.declared.refusal.Refusal.TheVariants.{Stranger}
use Rattle.seated_desk.specs.declared.span.Span.{Span}
use Rattle.seated_desk.specs.declared.station.Station.{Station}

-- how many buffers a burst has; none where it is not open
abbrev pub count_in : Option ParcelState → ℕ
count_in None = 0
count_in (Some p) = length p.items

-- what is told of a burst is its count, and the burst stays
abbrev pub TellsCount : ℕ → BurstHandle → BurstHandle → Type 0
TellsCount told old new = (told ≡ count_in old.parcel) × (new ≡ old)

-- a parcel is there with room for so many buffers, and has none
abbrev pub IsOpened : ℕ → Option ParcelState → Type 0
IsOpened places None = ⊥
IsOpened places (Some p) = (p.items ≡ []) × (places ≤ p.places)

-- an answer of 0 has opened a burst where there was no buffer, and it knows this pool now; any other leaves it as it
-- was
pub record OpensAt (places pool answer : ℕ) (old new : BurstHandle) : Type 0 where
  pub opened : answer ≡ 0 → (count_in old.parcel ≡ 0) × IsOpened places new.parcel × (new.pool ≡ pool)
  pub refused : answer ≢ 0 → new ≡ old

-- so does an allocator of its pool
abbrev pub OpensBurst : ℕ → ℕ → AllocatorHandle → AllocatorHandle → BurstHandle → BurstHandle → Type 0
OpensBurst places answer before after old new =
    AtStation before.station after.station answer old new (λ s t. IsSameStation s t × OpensAt places s.pool answer old new)

-- so many buffers of at least this size came to the end
pub record Adds (size number : ℕ) (old new : ParcelState) : Type 0 where
  pub added : List Buffer
  pub appended : new.items ≡ old.items ++ added
  pub count : length added ≡ number
  pub sizes : All (λ (b : Buffer). size ≤ size_of b.class) added

abbrev pub AddsTo : ℕ → ℕ → Option ParcelState → Option ParcelState → Type 0
AddsTo size count (Some p) (Some q) = Adds size count p q
AddsTo size count p q = ⊥

-- the same of at most so many, and nothing where none is open
abbrev pub AddsAtMost : ℕ → ℕ → Option ParcelState → Option ParcelState → Type 0
AddsAtMost size count None None = Unit {0}
AddsAtMost size count (Some p) (Some q) = (n : ℕ) × (n ≤ count) × Adds size n p q
AddsAtMost size count p q = ⊥

-- an answer of 0 has lent so many buffers of at least this size into an open burst of this pool; any other has lent at
-- most so many, which are at its end
pub record FillsAt (size count pool answer : ℕ) (old new : BurstHandle) : Type 0 where
  pub filled : answer ≡ 0 → AddsTo size count old.parcel new.parcel × (old.pool ≡ pool)
  pub refused : answer ≢ 0 → AddsAtMost size count old.parcel new.parcel
  pub pool_stays : new.pool ≡ old.pool

-- so does an allocator of its pool
abbrev pub Fills : ℕ → ℕ → ℕ → AllocatorHandle → AllocatorHandle → BurstHandle → BurstHandle → Type 0
Fills size count answer before after old new =
    AtStation before.station after.station answer old new (λ s t.
    LendsBurst old.parcel new.parcel s t × FillsAt size count s.pool answer old new)

-- an answer of 0 has taken an open burst of this pool with all its buffers; any other leaves it there. Another pool's
-- burst is a stranger
pub record FreesAll (pool answer : ℕ) (old new : BurstHandle) : Type 0 where
  pub taken : answer ≡ 0 → (old.parcel ≢ None) × (old.pool ≡ pool) × (new.parcel ≡ None)
  pub refused : answer ≢ 0 → new ≡ old
  pub stranger : old.parcel ≢ None → old.pool ≢ pool → answer ≡ refusal_number Stranger

-- just its buffers were freed at the allocator; at any other answer none was
pub record FreesBurst (answer : ℕ) (before after : Station) (old : BurstHandle) : Type 0 where
  pub freed : answer ≡ 0 → (p : ParcelState) × (old.parcel ≡ Some p) × FreesThere p.items before after
  pub refused : answer ≢ 0 → IsSameStation before after

-- so does an allocator of its pool
abbrev pub TakesBurst : ℕ → AllocatorHandle → AllocatorHandle → BurstHandle → BurstHandle → Type 0
TakesBurst answer before after old new =
    AtStation before.station after.station answer old new (λ s t. FreesBurst answer s t old × FreesAll s.pool answer old new)

-- the buffer moved out of the handle, to the end of the parcel
abbrev pub MovesIn : Option ParcelState → Option ParcelState → Option Buffer → Option Buffer → Type 0
MovesIn (Some p) (Some q) (Some b) None = Packs p b q
MovesIn p q b c = ⊥

-- an answer of 0 has moved the handle's buffer into the burst, which is of the same pool; any other leaves both.
-- Another pool's buffer is a stranger
pub record PutsIn (answer : ℕ) (old new : BurstHandle) (before after : BufHandle) : Type 0 where
  pub moved : answer ≡ 0 → MovesIn old.parcel new.parcel before.buf after.buf × (before.pool ≡ old.pool) × (new.pool ≡ old.pool)
  pub refused : answer ≢ 0 → (new ≡ old) × (after ≡ before)
  pub stranger : old.parcel ≢ None → HasBuffer before → before.pool ≢ old.pool → answer ≡ refusal_number Stranger

-- the last buffer moved out of the parcel, into the handle
abbrev pub MovesOut : Option ParcelState → Option ParcelState → Option Buffer → Option Buffer → Type 0
MovesOut (Some p) (Some q) None (Some b) = (p.items ≡ q.items ++ b ∷ []) × (q ≡ record p { items = q.items })
MovesOut p q b c = ⊥

-- an answer of 0 has moved the burst's last buffer into the handle, which knows the burst's pool now; any other leaves
-- both
pub record TakesLast (answer : ℕ) (old new : BurstHandle) (before after : BufHandle) : Type 0 where
  pub moved : answer ≡ 0 → MovesOut old.parcel new.parcel before.buf after.buf × (after.pool ≡ old.pool) × (new.pool ≡ old.pool)
  pub refused : answer ≢ 0 → (new ≡ old) × (after ≡ before)

-- the buffer at this place of a burst
abbrev pub buffer_at : Option ParcelState → ℕ → Option Buffer
buffer_at None index = None
buffer_at (Some p) index = slice_get p.items index

-- an answer of 0 tells of the buffer at this place how many bytes it has; any other tells nothing, since none is there.
-- The burst stays
pub record TellsSpan (index answer : ℕ) (old new : BurstHandle) (before after : Span) : Type 0 where
  pub told : answer ≡ 0 → (b : Buffer) × (buffer_at old.parcel index ≡ Some b) × (after.len ≡ size_of b.class)
  pub refused : answer ≢ 0 → (buffer_at old.parcel index ≡ None) × (after ≡ before)
  pub burst : new ≡ old
