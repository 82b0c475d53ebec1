use Rattle.std.proofs.Common.{◌++◌, length, IsPermutation}
use Rattle.pool_desk.proofs.home.store_all.Given as goal

abbrev pub invariant-loop-buf : goal.invariant-loop-buf
invariant-loop-buf l = IsPermutation (l.initial.list ++ l.initial.array.items) (l.list ++ l.array.items)

abbrev pub decreases-loop-buf : goal.decreases-loop-buf
decreases-loop-buf l = length l.array.items
