use Rattle.pool_jobs.proofs.Waits.{serves_since}
use Rattle.pool_jobs.proofs.allocator.Allocator.alloc_waiting.Goals as goal

pub returns-then-not-is_used_up-clause-serves : goal.returns-then-not-is_used_up-clause-serves
returns-then-not-is_used_up-clause-serves g c = serves_since _ _ _ _ _ _ c.loop.invariant c.alloc-answer.ensures
