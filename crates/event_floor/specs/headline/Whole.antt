-- What is kept of a floor besides what its type says.
use Rattle.std.specs.Prelude.{◌≡◌, ◌+◌, ◌≤◌, length, All}
use Rattle.region_cut.specs.Limits.{chunk_limit, chunk_size}
use Rattle.event_floor.specs.Lent.{AreInPlace}
use Rattle.event_floor.specs.Floors.{FloorState, IsFloor}

-- the parts are those of the drawn chunks and the others, each of the others whole
abbrev pub IsStocked : FloorState → Type 0
IsStocked v = (length v.parts ≡ length v.drawn + length v.undrawn) × All (λ bs. length bs ≡ chunk_size) v.undrawn

-- a floor of no more chunks than a region has, whose lent buffers lie in the places of their slots
pub record IsWhole (v : FloorState) : Type 0 where
  pub floor : IsFloor v.digits v.limit v.chunks v.desks v.lent v.inboxes v.next
  pub in_place : AreInPlace v.lent
  pub few_chunks : v.chunks ≤ chunk_limit
  pub stocked : IsStocked v
