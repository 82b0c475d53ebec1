use Rattle.std.proofs.Common.{◌≡◌, [], replicate}
use Rattle.digit_route.proofs.magazines.empty_magazines.Given as goal

abbrev pub invariant-loop-i : goal.invariant-loop-i
invariant-loop-i l = l.magazines.items ≡ replicate l.i []
