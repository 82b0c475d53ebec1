use Rattle.std.proofs.Common.{length}
use Rattle.route_uses.proofs.tests.desks.receive.Given as goal

abbrev pub decreases-loop-buf : goal.decreases-loop-buf
decreases-loop-buf g l = length l.magazine
