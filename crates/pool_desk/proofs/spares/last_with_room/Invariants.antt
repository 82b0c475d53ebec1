use Rattle.std.proofs.Common.{◌≤◌, length}
use Rattle.pool_desk.proofs.spares.last_with_room.Given as goal

abbrev pub invariant-loop-at : goal.invariant-loop-at
invariant-loop-at l = l.at ≤ length l.arrays

abbrev pub decreases-loop-at : goal.decreases-loop-at
decreases-loop-at l = l.at
