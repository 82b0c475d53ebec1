-- The numbers of refusals.
use Rattle.std.specs.Prelude.{ℕ}
use Rattle.pool_jobs.specs.declared.error.PoolError.{PoolError}
use Rattle.pool_jobs.specs.declared.error.PoolError.TheVariants.{TooLarge, UsedUp, NoMemory, NoChunk}
use Rattle.pool_jobs.specs.declared.error.JobError.{JobError}
use Rattle.pool_jobs.specs.declared.error.JobError.TheVariants as Job
use Rattle.pool_fabric.specs.declared.error.GatherError.{GatherError}
use Rattle.pool_fabric.specs.declared.error.GatherError.TheVariants as Gather

abbrev pub shortage_number : PoolError → ℕ
shortage_number TooLarge = 1
shortage_number UsedUp = 2
shortage_number NoMemory = 3
shortage_number NoChunk = 4

abbrev pub job_number : JobError → ℕ
job_number Job.NoMemory = 1
job_number Job.NoThread = 2

-- why there is no tally where not all was gathered
abbrev pub job_error_of : GatherError → JobError
job_error_of Gather.NoMemory = Job.NoMemory
job_error_of (Gather.Missing f) = Job.NoThread
