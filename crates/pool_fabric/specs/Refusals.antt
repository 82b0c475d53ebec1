-- The numbers of refusals.
use Rattle.std.specs.Prelude.{ℕ}
use Rattle.pool_fabric.specs.declared.error.GatherError.{GatherError}
use Rattle.pool_fabric.specs.declared.error.GatherError.TheVariants.{NoMemory, Missing}

abbrev pub gather_number : GatherError → ℕ
gather_number NoMemory = 1
gather_number (Missing f) = 2
