use Rattle.std.proofs.Common.{◌≡◌, ℕ, List, ◌++◌, length}
use Rattle.pool_fabric.specs.Stations.{StationState}
use Rattle.pool_fabric.specs.Faults.{LacksNumber}
use Rattle.pool_fabric.proofs.found.all_of.Given as goal

abbrev pub invariant-loop-station : goal.invariant-loop-station
invariant-loop-station g l = record {
  numbers : (a : ℕ) → LacksNumber a l.stations.items → LacksNumber a l.shelf
      → LacksNumber a l.fn.shelf × LacksNumber a l.fn.held.items;
  held : (others : List StationState) × (l.stations.items ≡ l.fn.held.items ++ others);
}

abbrev pub decreases-loop-station : goal.decreases-loop-station
decreases-loop-station g l = length l.shelf
