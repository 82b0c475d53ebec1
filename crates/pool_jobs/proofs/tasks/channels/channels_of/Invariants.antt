use Rattle.std.proofs.Common.{◌≡◌, length}
use Rattle.pool_jobs.proofs.tasks.channels.channels_of.Given as goal

abbrev pub invariant-loop-number : goal.invariant-loop-number
invariant-loop-number g l = length l.receivers.items ≡ l.number

abbrev pub invariant-loop-task : goal.invariant-loop-task
invariant-loop-task g l = length l.all.items ≡ length l.yielded
