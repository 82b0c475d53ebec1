use Rattle.std.proofs.Common.{length}
use Rattle.slot_chain.proofs.chain.Chain.drop.Given as goal

abbrev pub decreases-loop-self : goal.decreases-loop-self
decreases-loop-self l = length l.self
