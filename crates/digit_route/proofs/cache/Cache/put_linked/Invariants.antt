use Rattle.std.proofs.Common.{◌≡◌, ◌++◌, length, All, IsPermutation}
use Rattle.digit_route.specs.Route.{IsCached}
use Rattle.digit_route.proofs.cache.Cache.put_linked.Given as goal

abbrev pub invariant-loop-buf : goal.invariant-loop-buf
invariant-loop-buf l = record {
  same : l.self ≡ record l.initial.self { items = l.self.items };
  cached : All (IsCached l.initial.self.digits l.initial.self.number) l.linked;
  items : IsPermutation (l.initial.self.items ++ l.initial.linked) (l.self.items ++ l.linked);
}

abbrev pub decreases-loop-buf : goal.decreases-loop-buf
decreases-loop-buf l = length l.linked
