use Rattle.std.proofs.Common.{◌≡◌, length}
use Rattle.digit_route.proofs.MoveLaws.{with_ended}
use Rattle.digit_route.proofs.magazines.end_all.Given as goal

abbrev pub invariant-loop-magazine : goal.invariant-loop-magazine
invariant-loop-magazine l = with_ended l.magazines.items l.endings ≡ with_ended l.initial.magazines.items l.initial.endings

abbrev pub decreases-loop-magazine : goal.decreases-loop-magazine
decreases-loop-magazine l = length l.magazines.items
