use Rattle.std.proofs.Common.{◌≡◌, ◌+◌, length}
use Rattle.region_cut.specs.Bumps.{left_of}
use Rattle.region_cut.specs.Classes.{slots_of}
use Rattle.chain_uses.proofs.filling.fill_part.Given as goal

abbrev pub invariant-loop-room : goal.invariant-loop-room
invariant-loop-room l = (l.bump.class ≡ l.class) × (length l.chain + left_of l.bump ≡ length l.initial.chain + slots_of l.class)

abbrev pub decreases-loop-room : goal.decreases-loop-room
decreases-loop-room l = left_of l.bump
