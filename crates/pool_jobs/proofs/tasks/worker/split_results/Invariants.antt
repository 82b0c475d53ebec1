use Rattle.std.proofs.Common.{◌≡◌, map}
use Rattle.pool_jobs.proofs.tasks.worker.split_results.Given as goal

abbrev pub invariant-loop-one : goal.invariant-loop-one
invariant-loop-one g l = record {
  answers : l.answers.items ≡ map (λ s. s.answer) l.yielded;
  outcomes : l.outcomes.items ≡ map (λ s. s.outcome) l.yielded;
}
