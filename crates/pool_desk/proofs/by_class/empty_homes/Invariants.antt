use Rattle.std.proofs.Common.{◌≡◌}
use Rattle.pool_desk.specs.HomesState.{empties}
use Rattle.pool_desk.proofs.by_class.empty_homes.Given as goal

abbrev pub invariant-loop-k : goal.invariant-loop-k
invariant-loop-k l = l.homes.items ≡ empties l.owner l.k
