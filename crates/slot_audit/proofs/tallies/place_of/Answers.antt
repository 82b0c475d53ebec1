use Rattle.std.proofs.Common.{arith}
use Rattle.std.proofs.lemmas.Grind.{common_steps}
use Rattle.slot_audit.proofs.tallies.place_of.Goals as goal

pub returns-then-is_drawn_slot-clause-some : goal.returns-then-is_drawn_slot-clause-some
returns-then-is_drawn_slot-clause-some c = grind (arith, common_steps)
