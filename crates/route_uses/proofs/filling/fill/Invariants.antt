use Rattle.std.proofs.Common.{◌≡◌}
use Rattle.route_uses.proofs.filling.fill.Given as goal

abbrev pub invariant-loop-owner : goal.invariant-loop-owner
invariant-loop-owner l = (l.cache ≡ record l.initial.cache { items = l.cache.items }) × (l.bump.class ≡ l.class)
