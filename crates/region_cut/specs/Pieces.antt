-- What a piece shows.
use Rattle.std.specs.Prelude.{ℕ, List}
use Rattle.std.specs.Borrow.{MutBor}
use Rattle.region_cut.specs.declared.part.Piece.{Piece}
use Rattle.region_cut.specs.declared.slot.Slot.{Slot}

-- its place in the region
abbrev pub place_of : Piece → Slot
place_of p = p.slot

-- its slice: the bytes now, and the name that tells the bytes when the borrow ends
abbrev pub slice_of : Piece → MutBor (List ℕ)
slice_of p = p.bytes
