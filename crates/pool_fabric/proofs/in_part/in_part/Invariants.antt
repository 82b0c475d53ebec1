use Rattle.std.proofs.Common.{length}
use Rattle.pool_fabric.proofs.AllOf.{AddsBut}
use Rattle.pool_fabric.proofs.in_part.in_part.Given as goal

abbrev pub invariant-loop-station : goal.invariant-loop-station
invariant-loop-station g l = AddsBut l.fn.stations.items l.stations.items l.fn.gathered l.desks.items l.lent l.freed

abbrev pub decreases-loop-station : goal.decreases-loop-station
decreases-loop-station g l = length l.stations.items
