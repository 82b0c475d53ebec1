use Rattle.std.proofs.Common.{◌≡◌, ◌≤◌, All}
use Rattle.std.specs.Vec.{vec_capacity, vec_len}
use Rattle.inbox_uses.specs.Supplied.{IsSupplied, supplied_digits}
use Rattle.inbox_uses.proofs.supply.Supply.batches.Given as goal

abbrev pub invariant-loop-number : goal.invariant-loop-number
invariant-loop-number l = record {
  desk : (l.desk.number ≡ l.sender) × (l.desk.digits ≡ supplied_digits);
  made : vec_len l.batches ≡ l.number;
  room : l.count ≤ vec_capacity l.batches;
  each : All (IsSupplied l.sender) l.batches.items;
}
