-- The rounds of a workload.
use Rattle.std.specs.Prelude.{ℕ}
use Rattle.pool_jobs.specs.declared.workloads.plan.Plan.{Plan}
use Rattle.pool_jobs.specs.declared.tally.WorkerCounts.{WorkerCounts}
use Rattle.pool_jobs.specs.declared.workloads.workload.Workload.{Workload}
use Rattle.pool_jobs.specs.declared.workloads.workload.Workload.TheVariants.{ProdCons, Ring, Replace}

-- how many rounds a workload has
abbrev pub rounds_of : Workload → Plan → ℕ
rounds_of ProdCons plan = 1
rounds_of Ring plan = 1
rounds_of Replace plan = plan.rounds

-- how many rounds there are, with how many workers each, and what was counted in those that were done
pub record RoundsState : Type 0 where
  pub rounds : ℕ
  pub workers : ℕ
  pub counts : WorkerCounts
