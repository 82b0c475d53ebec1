use Rattle.std.proofs.Common.{length}
use Rattle.inbox_uses.proofs.empties.linked.Given as goal

abbrev pub decreases-loop-buf : goal.decreases-loop-buf
decreases-loop-buf l = length l.buffers
