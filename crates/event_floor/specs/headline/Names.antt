-- The names by which the bytes of the slots are known when the region's borrow ends.
use Rattle.std.specs.Prelude.{◌≡◌, ℕ, ◌+◌, ◌-◌, ◌*◌, ◌≤◌, ◌<◌, Bool, false, ◌==◌, List, length, slice_get}
use Rattle.std.specs.Prelude.{cond, count_by, Some, All}
use Rattle.std.specs.Option.{option_map_or}
use Rattle.std.specs.Borrow.{GName}
use Rattle.region_cut.specs.Limits.{chunk_size}
use Rattle.region_cut.specs.Carved.{Carved}
use Rattle.region_cut.specs.Classes.{size_of, slots_of}
use Rattle.region_cut.specs.Laws.{StandsAt}
use Rattle.slot_chain.specs.Buffer.{Buffer}
use Rattle.pool_desk.specs.Homes.{AtHome, Unused}
use Rattle.pool_desk.specs.Homes.AtHome.{Kept, Fresh}
use Rattle.pool_machine.specs.declared.chunk.DrawnChunk.{DrawnChunk}
use Rattle.event_floor.specs.Desks.AnyDeskState.{Idle, Held}
use Rattle.event_floor.specs.Chunks.{class_drawn}
use Rattle.event_floor.specs.Inboxes.{QueuedState}
use Rattle.event_floor.specs.Desks.{AnyDeskState, home_of, cached_of}
use Rattle.event_floor.specs.Lent.{buffers_lent}
use Rattle.event_floor.specs.Floors.{FloorState}

-- the buffer of place i of a chunk has the i-th name that was taken of the chunk, the chunk's class, and as many bytes
-- as the class says
pub record HasName (names : List Carved) (b : Buffer) : Type 0 where
  pub chunk : Carved
  pub is_chunk : slice_get names b.slot.chunk ≡ Some chunk
  pub class : chunk.class ≡ b.class
  pub name : slice_get chunk.taken b.slot.index ≡ Some b.bytes.ghost_name
  pub size : length b.bytes.now ≡ size_of b.class

-- a slot of a chunk that was never handed out: no name was taken for its place yet, and its bytes stand in what is left
-- of the chunk, behind those of the slots that are handed out before it
pub record HasNoName (names : List Carved) (u : Unused) : Type 0 where
  pub chunk : Carved
  pub is_chunk : slice_get names u.slot.chunk ≡ Some chunk
  pub class : chunk.class ≡ u.class
  pub part : chunk.whole ≡ u.part
  pub place : length chunk.taken ≤ u.slot.index
  pub within : u.slot.index < slots_of u.class
  pub size : length u.bytes ≡ size_of u.class
  pub lies : StandsAt u.bytes ((u.slot.index - length chunk.taken) * size_of u.class) chunk.rest

abbrev pub IsNamedHome : List Carved → AtHome → Type 0
IsNamedHome names (Kept b) = HasName names b
IsNamedHome names (Fresh u) = HasNoName names u

-- the chunks that a desk ever claimed
abbrev pub chunks_of : AnyDeskState → List Carved
chunks_of (Idle d) = d.drawn
chunks_of (Held d) = d.drawn

-- chunk k was drawn for desk a
abbrev pub drew : List DrawnChunk → ℕ → ℕ → Bool
drew drawn a k = option_map_or (λ (d : DrawnChunk). d.owner == a) (slice_get drawn k) false

-- desk a: all its buffers have their names, and it knows each chunk that was drawn for it once, and no other
pub record IsNamedDesk (names : List Carved) (drawn : List DrawnChunk) (a : ℕ) (s : AnyDeskState) : Type 0 where
  pub home : All (IsNamedHome names) (home_of s)
  pub cached : All (HasName names) (cached_of s)
  pub same : All (λ (c : Carved). slice_get names c.chunk ≡ Some c) (chunks_of s)
  pub once : (k : ℕ) → count_by (λ (c : Carved). c.chunk == k) (chunks_of s) ≡ cond (drew drawn a k) 1 0

-- chunk k was drawn for its class, over the part of its number; no more names were taken of it than it has slots, and
-- what is left of it are the bytes behind them
pub record IsNamedChunk (parts : List GName) (drawn : List DrawnChunk) (k : ℕ) (c : Carved) : Type 0 where
  pub number : c.chunk ≡ k
  pub class : class_drawn drawn k ≡ Some c.class
  pub part : slice_get parts k ≡ Some c.whole
  pub few : length c.taken ≤ slots_of c.class
  pub whole : length c.taken * size_of c.class + length c.rest ≡ chunk_size

-- these are the drawn chunks of the floor in order, each with its part and the names taken of it, and all buffers have
-- their names
pub record AreNames (names : List Carved) (v : FloorState) : Type 0 where
  pub count : length names ≡ length v.drawn
  pub chunks : (k : ℕ) (c : Carved) → slice_get names k ≡ Some c → IsNamedChunk v.parts v.drawn k c
  pub desks : (a : ℕ) (s : AnyDeskState) → slice_get v.desks a ≡ Some s → IsNamedDesk names v.drawn a s
  pub lent : All (HasName names) (buffers_lent v.lent)
  pub queued : All (λ inbox. All (λ (p : QueuedState). All (HasName names) p.buffers) inbox) v.inboxes

-- some list is that of the floor's drawn chunks, by which each buffer has the name of its place
unfoldable pub IsNamed : FloorState → Type 0
IsNamed v = (names : List Carved) × AreNames names v
