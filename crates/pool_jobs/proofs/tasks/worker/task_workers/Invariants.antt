use Rattle.std.proofs.Common.{◌≡◌, length}
use Rattle.pool_jobs.proofs.tasks.worker.task_workers.Given as goal

abbrev pub invariant-loop-number : goal.invariant-loop-number
invariant-loop-number g l = length l.workers.items ≡ l.number
