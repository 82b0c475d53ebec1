use Rattle.std.proofs.Common.{arith}
use Rattle.std.proofs.lemmas.Grind.{common_steps}
use Rattle.slot_audit.proofs.drawn.Drawn.note.Goals as goal

pub returns-clause-noted : goal.returns-clause-noted
returns-clause-noted c = grind (arith, common_steps)

pub returns-clause-others : goal.returns-clause-others
returns-clause-others c = grind (arith, common_steps)
