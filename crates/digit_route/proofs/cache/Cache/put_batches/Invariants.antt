use Rattle.std.proofs.Common.{◌≡◌, ◌++◌, length, All, IsPermutation}
use Rattle.digit_route.specs.Kept.{IsKept, kept_items}
use Rattle.digit_route.proofs.cache.Cache.put_batches.Given as goal

abbrev pub invariant-loop-kept : goal.invariant-loop-kept
invariant-loop-kept l = record {
  same : l.self ≡ record l.initial.self { items = l.self.items };
  kept : All (IsKept l.initial.self.digits l.initial.self.number) l.batches.items;
  items : IsPermutation (l.initial.self.items ++ kept_items l.initial.batches.items) (l.self.items ++ kept_items l.batches.items);
}

abbrev pub decreases-loop-kept : goal.decreases-loop-kept
decreases-loop-kept l = length l.batches.items
