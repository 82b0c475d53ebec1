-- The numbers of refusals.
use Rattle.std.specs.Prelude.{ℕ}
use Rattle.region_cut.specs.declared.error.CutError.{CutError}
use Rattle.region_cut.specs.declared.error.CutError.TheVariants.{TooMany, NoMemory}

-- the number of a refused cut
abbrev pub refusal_number : CutError → ℕ
refusal_number TooMany = 1
refusal_number NoMemory = 2
