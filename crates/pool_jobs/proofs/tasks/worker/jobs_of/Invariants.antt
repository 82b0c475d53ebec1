use Rattle.std.proofs.Common.{◌≡◌, ◌-◌, ◌++◌, map, length}
use Rattle.std.specs.Vec.Iter.{into_iter_items, into_iter_len}
use Rattle.std.specs.Iterator.Adapters.{zip_first, zip_second}
use Rattle.std.specs.List.{AllZip}
use Rattle.pool_jobs.specs.Promises.{FirstHave}
use Rattle.pool_jobs.proofs.tasks.worker.jobs_of.Given as goal

abbrev pub invariant-loop-task : goal.invariant-loop-task
invariant-loop-task g l = record {
  tasks : AllZip (λ p j. j.task ≡ p.0) l.yielded l.jobs.items;
  rest : map (λ p. p.0) l.yielded ++ into_iter_items (zip_first l.task-iterator) ≡ l.fn.tasks.items;
  even : length (into_iter_items (zip_second l.task-iterator)) ≡ length (into_iter_items (zip_first l.task-iterator));
  workers : FirstHave (λ j. j.worker) (length l.fn.workers.items) l.jobs.items;
  left : into_iter_len l.workers ≡ length l.fn.workers.items - length l.jobs.items;
}
