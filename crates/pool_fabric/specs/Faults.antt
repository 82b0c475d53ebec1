-- Why not all was gathered.
use Rattle.std.specs.Prelude.{◌≢◌, ℕ, ◌<◌, List, ◌++◌, All}
use Rattle.pool_fabric.specs.Stations.{StationState}
use Rattle.pool_fabric.specs.Whole.{IsAllOf}
use Rattle.pool_fabric.specs.declared.in_part.FoundInPart.{FoundInPart}
use Rattle.pool_fabric.specs.declared.error.GatherError.{GatherError}
use Rattle.pool_fabric.specs.declared.error.GatherError.TheVariants.{NoMemory, Missing}

-- none of the stations is of the desk of this number
abbrev pub LacksNumber : ℕ → List StationState → Type 0
LacksNumber a stations = All (λ (s : StationState). s.desk.number ≢ a) stations

-- Of so many desks, the station of one is not there. Found is all that the others have: these stations, and those of
-- the shelf.
pub record IsFoundInPart (count : ℕ) (stations : List StationState) (f : FoundInPart) : Type 0 where
  pub below : f.missing < count
  pub lacks : LacksNumber f.missing stations
  pub others : List StationState
  pub found : IsAllOf (stations ++ others) f.desks.items f.lent f.freed

-- a station is said to be missing only where it is
abbrev pub IsGatherFault : ℕ → List StationState → GatherError → Type 0
IsGatherFault count stations NoMemory = Unit {0}
IsGatherFault count stations (Missing f) = IsFoundInPart count stations f
