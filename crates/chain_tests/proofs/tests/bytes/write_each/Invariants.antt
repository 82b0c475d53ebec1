use Rattle.std.proofs.Common.{length}
use Rattle.chain_tests.proofs.tests.bytes.write_each.Given as goal

abbrev pub decreases-loop-buf : goal.decreases-loop-buf
decreases-loop-buf g l = length l.chain
