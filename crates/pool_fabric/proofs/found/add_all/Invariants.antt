use Rattle.std.proofs.Common.{◌≡◌, ℕ, ◌+◌, ◌≤◌, length}
use Rattle.pool_fabric.specs.Faults.{LacksNumber}
use Rattle.pool_fabric.proofs.AllOf.{IsAllBut}
use Rattle.pool_fabric.proofs.found.add_all.Given as goal

abbrev pub invariant-loop-number : goal.invariant-loop-number
invariant-loop-number g l = record {
  columns : l.gathered.columns ≡ l.fn.columns;
  takes : length l.gathered.takes ≡ l.number;
  rows : length l.gathered.rows ≡ l.number;
  parts : l.gathered.page.parts ≡ l.fn.page.parts + l.number;
  gave : l.gathered.page.gave ≡ l.fn.page.gave;
  all : IsAllBut l.fn.stations.items l.stations.items l.gathered.desks l.gathered.lent l.gathered.freed;
  lacks : (a : ℕ) → l.number ≤ a → LacksNumber a l.stations.items → LacksNumber a l.fn.stations.items;
}
