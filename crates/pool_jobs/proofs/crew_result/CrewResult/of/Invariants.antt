use Rattle.std.proofs.Common.{◌≡◌}
use Rattle.pool_jobs.specs.Counted.{counted_by, stations_of}
use Rattle.pool_jobs.proofs.crew_result.CrewResult.of.Given as goal

abbrev pub invariant-loop-outcome : goal.invariant-loop-outcome
invariant-loop-outcome g l = record {
  counts : l.counts ≡ counted_by l.yielded;
  held : l.held.items ≡ stations_of l.yielded;
}
