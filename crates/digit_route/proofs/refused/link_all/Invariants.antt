use Rattle.std.proofs.Common.{◌++◌, length, IsPermutation}
use Rattle.digit_route.proofs.refused.link_all.Given as goal

abbrev pub invariant-loop-buf : goal.invariant-loop-buf
invariant-loop-buf l = IsPermutation (l.initial.chain ++ l.initial.magazine) (l.chain ++ l.magazine)

abbrev pub decreases-loop-buf : goal.decreases-loop-buf
decreases-loop-buf l = length l.magazine
