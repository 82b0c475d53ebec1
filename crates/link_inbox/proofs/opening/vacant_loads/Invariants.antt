use Rattle.std.proofs.Common.{◌≡◌, replicate, None}
use Rattle.link_inbox.proofs.opening.vacant_loads.Given as goal

abbrev pub invariant-loop-node : goal.invariant-loop-node
invariant-loop-node l = l.loads.items ≡ replicate l.node None
