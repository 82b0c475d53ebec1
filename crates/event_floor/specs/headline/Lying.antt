-- Where the bytes of a slot lie.
use Rattle.std.specs.Prelude.{◌≡◌, ◌≢◌, ℕ, List, ◌++◌, length, flat_map, All}
use Rattle.region_cut.specs.Limits.{chunk_size}
use Rattle.region_cut.specs.Carved.{Carved}
use Rattle.region_cut.specs.Classes.{size_of}
use Rattle.region_cut.specs.Laws.{Ending, StandsAt, BeginsWith}
use Rattle.region_cut.specs.Ranges.{start_of, Covers}
use Rattle.slot_chain.specs.Buffer.{Buffer}
use Rattle.pool_desk.specs.Homes.{AtHome, Unused, slot_at, class_at}
use Rattle.event_floor.specs.Floors.{FloorState}
use Rattle.event_floor.specs.headline.Names.{HasName, HasNoName, IsNamedHome, AreNames}

-- Where a region ends as the parts of a floor, and the chunk of a buffer that has the name of its place as the slots
-- that were taken of it, the buffer's slice lies at the range of its slot of the region.
abbrev pub NamedBuffersLie : Type 0
NamedBuffersLie =
    (end : Ending) (v : FloorState) (names : List Carved) → AreNames names v
    → (b : Buffer) (named : HasName names b) (region : List ℕ)
    → BeginsWith end v.parts chunk_size region
    → BeginsWith end named.chunk.taken (size_of b.class) (end named.chunk.whole)
    → StandsAt (end b.bytes.ghost_name) (start_of b.slot b.class) region

-- So does a slot that was never handed out, whose chunk ends as the slots that were taken of it and then as what is
-- left of it: its bytes stand at the range.
abbrev pub UnusedSlotsLie : Type 0
UnusedSlotsLie =
    (end : Ending) (v : FloorState) (names : List Carved) → AreNames names v
    → (u : Unused) (unnamed : HasNoName names u) (region : List ℕ)
    → BeginsWith end v.parts chunk_size region → All (λ x. length (end x) ≡ size_of u.class) unnamed.chunk.taken
    → end unnamed.chunk.whole ≡ flat_map end unnamed.chunk.taken ++ unnamed.chunk.rest
    → StandsAt u.bytes (start_of u.slot u.class) region

-- Two slots of a floor share no byte of the region, where they are different: buffers that have the names of their
-- places, and slots that were never handed out.
abbrev pub NamedSlotsShareNoByte : Type 0
NamedSlotsShareNoByte =
    (v : FloorState) (names : List Carved) → AreNames names v → (x y : AtHome) → IsNamedHome names x
    → IsNamedHome names y → slot_at x ≢ slot_at y
    → (byte : ℕ) → Covers (slot_at x) (class_at x) byte → Covers (slot_at y) (class_at y) byte → ⊥
