use Rattle.std.proofs.Common.{◌≡◌, ℕ, ◌++◌}
use Rattle.batch_inbox.specs.Views.{batches_of}
use Rattle.pool_fabric.proofs.drained.drained.Given as goal

abbrev pub invariant-loop : goal.invariant-loop
invariant-loop g l =
    (goal.iterator-loop g).can_next l.iterator'
    × (goal.iterator-loop g).is_finite l.iterator'
    × ((k : ℕ) → g.M.Rest.Remainder.left l.initial.rest k ≡ batches_of k l.batches.items ++ g.M.Rest.Remainder.left l.rest k)
