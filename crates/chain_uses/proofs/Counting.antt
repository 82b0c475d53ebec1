-- How many parts a region has.
use Rattle.std.proofs.Common.{◌≡◌, ℕ, ◌/◌, List, length}
use Rattle.region_cut.proofs.Numbered.{parts_make}
use Rattle.region_cut.specs.Limits.{chunk_size}
use Rattle.region_cut.specs.Parts.{ArePartsOf}
use Rattle.region_cut.specs.declared.part.Part.{Part}

pub parts_length : (bs : List ℕ) (ps : List Part) → ArePartsOf bs ps → length ps ≡ length bs / chunk_size
parts_length bs ps h = let made = parts_make bs ps h in made.0
