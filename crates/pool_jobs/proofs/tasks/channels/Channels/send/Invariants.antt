use Rattle.std.proofs.Common.{◌≡◌}
use Rattle.pool_jobs.proofs.tasks.channels.Channels.send.Given as goal

-- what an edge that is full hands back is the message
abbrev pub invariant-loop : goal.invariant-loop
invariant-loop g l = l.message ≡ l.initial.message
