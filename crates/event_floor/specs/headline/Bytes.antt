-- The bytes of a floor's slots, which no request changes.
use Rattle.std.specs.Prelude.{ℕ, ◌≡◌, ◌≢◌, ◌+◌, ◌*◌, ◌⊎◌, List, length, flat_map, All, Any}
use Rattle.region_cut.specs.Limits.{chunk_size}
use Rattle.region_cut.specs.declared.slot.Slot.{Slot}
use Rattle.region_cut.specs.Carved.{Carved}
use Rattle.region_cut.specs.Classes.{size_of}
use Rattle.region_cut.specs.Endings.{Ended, end_in}
use Rattle.region_cut.specs.Laws.{StandsAt}
use Rattle.region_cut.specs.Ranges.{start_of}
use Rattle.slot_chain.specs.Buffer.{Buffer}
use Rattle.pool_desk.specs.Homes.{Unused}
use Rattle.event_floor.specs.Floors.{FloorState}
use Rattle.event_floor.specs.headline.EndsKnown.{buffers_of, fresh_of}
use Rattle.event_floor.specs.headline.Names.{chunks_of}

-- the region has these bytes at the range of the slot of the class
abbrev pub LieAt : List ℕ → Slot → ℕ → List ℕ → Type 0
LieAt region s class bytes = StandsAt bytes (start_of s class) region

-- the region has what is left of the chunk behind the slots that were taken of it
abbrev pub RestLies : List ℕ → Carved → Type 0
RestLies region c = StandsAt c.rest (chunk_size * c.chunk + length c.taken * size_of c.class) region

-- The floor holds the bytes of this region, each slot those of its range: each buffer, and each slot that was never
-- handed out. What is left of a drawn chunk, and the chunks that aren't drawn, are the region's too.
pub record Holds (v : FloorState) (region : List ℕ) : Type 0 where
  pub buffers : All (λ (b : Buffer). LieAt region b.slot b.class b.bytes.now) (buffers_of v)
  pub fresh : All (λ (u : Unused). LieAt region u.slot u.class u.bytes) (fresh_of v)
  pub rests : All (RestLies region) (flat_map chunks_of v.desks)
  pub undrawn : StandsAt (flat_map (λ (bs : List ℕ). bs) v.undrawn) (chunk_size * length v.drawn) region

-- the floor holds the bytes of some region
unfoldable pub HoldsSome : FloorState → Type 0
HoldsSome v = (region : List ℕ) × Holds v region

-- the same slot of the same class and owner, and the same slice: its bytes now, and its name
abbrev pub IsSameSlice : Buffer → Buffer → Type 0
IsSameSlice b c = (c.slot ≡ b.slot) × (c.class ≡ b.class) × (c.owner ≡ b.owner) × (c.bytes ≡ b.bytes)

-- the buffer is one of the old ones, or that of a slot that none of them has
abbrev pub IsKept : List Buffer → Buffer → Type 0
IsKept olds b = Any (IsSameSlice b) olds ⊎ All (λ (c : Buffer). c.slot ≢ b.slot) olds

-- No byte is changed: each buffer is one of the old ones, or that of a slot that was never handed out; the floor held
-- the bytes of some region, and still holds those of whatever region it held.
pub record KeepsBytes (old new : FloorState) : Type 0 where
  pub buffers : All (IsKept (buffers_of old)) (buffers_of new)
  pub held : HoldsSome old
  pub region : (region : List ℕ) → Holds old region → Holds new region

-- a buffer of this slot, of its class and as long, has the bytes that lay there
abbrev pub HasWhatLay : Unused → Buffer → Type 0
HasWhatLay u b = b.slot ≡ u.slot → b.class ≡ u.class → length b.bytes.now ≡ length u.bytes → b.bytes.now ≡ u.bytes

-- so it is of each slot that was never handed out before
abbrev pub FreshBytesStay : Type 0
FreshBytesStay = (old new : FloorState) → KeepsBytes old new
    → All (λ (u : Unused). All (HasWhatLay u) (buffers_of new)) (fresh_of old)

-- Once the floor is ended, its parts, joined in order, are the beginning of whatever region it held.
abbrev pub EndsAsHeld : FloorState → List Ended → Type 0
EndsAsHeld v known = (region : List ℕ) → Holds v region → StandsAt (flat_map (end_in known) v.parts) 0 region
