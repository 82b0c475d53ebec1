use Rattle.pool_jobs.proofs.Largest.{served_largest}
use Rattle.pool_jobs.proofs.tasks.allocator_heap.AllocatorHeap.alloc.Goals as goal

pub returns-clause-too_large : goal.returns-clause-too_large
returns-clause-too_large g c = served_largest g.J.Naming.names _ _ _ _ c.alloc.ensures
