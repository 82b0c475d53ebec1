use Rattle.std.proofs.Common.{take}
use Rattle.pool_fabric.specs.Faults.{LacksNumber}
use Rattle.pool_fabric.proofs.found.place_of.Given as goal

abbrev pub invariant-loop-at : goal.invariant-loop-at
invariant-loop-at g l = LacksNumber l.fn.number (take l.at l.fn.stations)
