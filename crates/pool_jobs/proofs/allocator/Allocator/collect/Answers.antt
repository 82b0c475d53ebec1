use Rattle.pool_jobs.proofs.Looking.{took}
use Rattle.pool_jobs.proofs.allocator.Allocator.collect.Goals as goal

pub returns-clause-keeps : goal.returns-clause-keeps
returns-clause-keeps g c =
    let s = took _ _ _ _ c.self.view_is c.take-taken.ensures.same c.take-taken.ensures.takes in
    record { desk = record { number = s.number; digits = c.recall.ensures.digits }; lent = s.lent; freed = s.freed }
