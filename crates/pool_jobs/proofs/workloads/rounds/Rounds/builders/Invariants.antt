use Rattle.std.proofs.Common.{◌≡◌, length}
use Rattle.pool_jobs.proofs.workloads.rounds.Rounds.builders.Given as goal

abbrev pub invariant-loop-worker : goal.invariant-loop-worker
invariant-loop-worker g l = record {
  each : length l.builders.items ≡ l.worker;
  workers : l.self-inside.workers ≡ l.initial.self-inside.workers;
  workload : l.self-inside.workload ≡ l.initial.self-inside.workload;
  plan : l.self-inside.plan ≡ l.initial.self-inside.plan;
  counts : l.self-inside.crew.counts ≡ l.initial.self-inside.crew.counts;
}
