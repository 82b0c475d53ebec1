use Rattle.std.proofs.Common.{◌≡◌, length}
use Rattle.pool_jobs.proofs.workloads.rows.jobs_with_rows.Given as goal

abbrev pub invariant-loop-builder : goal.invariant-loop-builder
invariant-loop-builder g l = length l.jobs.items ≡ length l.yielded
