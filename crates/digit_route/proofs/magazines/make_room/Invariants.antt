use Rattle.std.proofs.Common.{◌≡◌}
use Rattle.digit_route.proofs.magazines.make_room.Given as goal

abbrev pub invariant-loop-k : goal.invariant-loop-k
invariant-loop-k l = l.magazines.items ≡ l.initial.magazines.items
