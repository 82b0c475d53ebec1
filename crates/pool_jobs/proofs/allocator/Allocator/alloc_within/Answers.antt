use Rattle.pool_jobs.proofs.Waits.{serves_since}
use Rattle.pool_jobs.proofs.allocator.Allocator.alloc_within.Goals as goal

pub returns-then-not-is_used_up : goal.returns-then-not-is_used_up
returns-then-not-is_used_up g c = serves_since _ _ _ _ _ _ c.loop.invariant c.alloc-answer.ensures
