use Rattle.pool_jobs.proofs.Looking.{Step}
use Rattle.pool_jobs.proofs.allocator.Allocator.collect_on.Given as goal

-- nothing was lent or freed
abbrev pub invariant-loop : goal.invariant-loop
invariant-loop g l = Step l.initial.self l.self
