use Rattle.pool_jobs.specs.Bursts.{LendsInto}
use Rattle.pool_jobs.proofs.allocator.Allocator.fill_waiting.Given as goal

-- what was lent so far
abbrev pub invariant-loop : goal.invariant-loop
invariant-loop g l = LendsInto g.J.Naming.names l.fn.size l.fn.count l.fn.self l.fn.parcel l.lent l.self l.parcel
