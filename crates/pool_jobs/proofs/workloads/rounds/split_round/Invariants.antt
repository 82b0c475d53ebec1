use Rattle.std.proofs.Common.{◌≡◌, map}
use Rattle.pool_jobs.proofs.workloads.rounds.split_round.Given as goal

abbrev pub invariant-loop-one : goal.invariant-loop-one
invariant-loop-one g l = l.outcomes.items ≡ map (λ s. s.outcome) l.yielded
