use Rattle.std.proofs.Common.{◌≡◌, ◌+◌}
use Rattle.region_cut.specs.Bumps.{left_of}
use Rattle.cut_uses.proofs.callers.count.Given as goal

abbrev pub invariant-loop-piece : goal.invariant-loop-piece
invariant-loop-piece l = l.count + left_of l.bump ≡ left_of l.fn.bump

abbrev pub decreases-loop-piece : goal.decreases-loop-piece
decreases-loop-piece l = left_of l.bump
