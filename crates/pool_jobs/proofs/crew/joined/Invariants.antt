use Rattle.std.proofs.Common.{◌≡◌, None}
use Rattle.std.specs.List.{AllZip}
use Rattle.pool_jobs.proofs.crew.joined.Given as goal

abbrev pub invariant-loop-handle : goal.invariant-loop-handle
invariant-loop-handle g l = l.fault ≡ None → (l.fn.fault ≡ None) × AllZip (λ h r. g.J.Job.gives h.promise.0.value r) l.yielded l.outs.items
