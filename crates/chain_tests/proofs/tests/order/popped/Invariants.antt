use Rattle.std.proofs.Common.{length}
use Rattle.chain_tests.proofs.tests.order.popped.Given as goal

abbrev pub decreases-loop-buf : goal.decreases-loop-buf
decreases-loop-buf l = length l.chain
