-- What goes from task to task.
use Rattle.pool_jobs.specs.declared.tasks.channels.Unsent.{Unsent}
use Rattle.pool_jobs.specs.declared.tasks.channels.Unsent.TheVariants.{Full, Closed}

-- the message that was not handed over
abbrev pub message_in : {M : Type 0} → Unsent M → M
message_in (Full m) = m
message_in (Closed m) = m
