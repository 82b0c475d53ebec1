use Rattle.std.proofs.Common.{ℕ, ◌<◌, ◌≤◌, length}
use Rattle.std.specs.Prelude.{slice_index_or}
use Rattle.pool_fabric.specs.Stations.{StationState}
use Rattle.pool_jobs.proofs.crew_result.place_of_least.Given as goal

abbrev pub invariant-loop-at : goal.invariant-loop-at
invariant-loop-at g l = record {
  within : l.least < length l.stations;
  least : (k : ℕ) (d : StationState) → k < l.at → (slice_index_or l.stations l.least d).desk.number ≤ (slice_index_or l.stations k d).desk.number;
}
