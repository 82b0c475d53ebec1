-- A slot at home whose bytes were written.
use Rattle.std.specs.Prelude.{◌≡◌, ℕ, replicate}
use Rattle.region_cut.specs.Classes.{size_of}
use Rattle.pool_desk.specs.Homes.{AtHome}
use Rattle.pool_desk.specs.Homes.AtHome.{Kept, Fresh}

-- a buffer that came home, of which each byte is this one
abbrev pub IsFilled : ℕ → AtHome → Type 0
IsFilled byte (Kept b) = b.bytes.now ≡ replicate (size_of b.class) byte
IsFilled byte (Fresh u) = ⊥
