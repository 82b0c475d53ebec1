use Rattle.std.proofs.Common.{arith}
use Rattle.std.proofs.lemmas.Grind.{common_steps}
use Rattle.slot_audit.proofs.tallies.least_with.Goals as goal

pub loop-at-preserved : goal.loop-at-preserved
loop-at-preserved c = grind (arith, common_steps)

pub returns-then-is_drawn_slot-clause-some : goal.returns-then-is_drawn_slot-clause-some
returns-then-is_drawn_slot-clause-some c = grind (arith, common_steps)
