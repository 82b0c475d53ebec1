use Rattle.std.proofs.Common.{◌-◌}
use Rattle.pool_jobs.specs.Bursts.{LendsInto}
use Rattle.pool_jobs.proofs.allocator.Allocator.fill_class.Given as goal

abbrev pub invariant-loop-lent : goal.invariant-loop-lent
invariant-loop-lent g l = LendsInto g.J.Naming.names l.fn.size l.fn.most l.fn.self l.fn.parcel l.lent l.self l.parcel

abbrev pub decreases-loop-lent : goal.decreases-loop-lent
decreases-loop-lent g l = l.fn.most - l.lent
