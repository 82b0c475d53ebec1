use Rattle.std.proofs.Common.{◌≡◌, None}
use Rattle.std.specs.List.{AllZip}
use Rattle.pool_jobs.proofs.crew.fn.crew.scope.Given as goal

abbrev pub invariant-loop-job : goal.invariant-loop-job
invariant-loop-job g l = l.fault ≡ None → AllZip (λ j h. h.promise.0.value ≡ j) l.yielded l.handles.items
