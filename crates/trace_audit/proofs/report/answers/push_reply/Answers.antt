use Rattle.std.proofs.Common.{arith}
use Rattle.std.proofs.lemmas.Grind.{common_steps}
use Rattle.trace_audit.proofs.report.answers.push_reply.Goals as goal

pub returns-in-Batch-clause-items : goal.returns-in-Batch-clause-items
returns-in-Batch-clause-items c = grind (arith, common_steps)

pub returns-in-Chunk-clause-items : goal.returns-in-Chunk-clause-items
returns-in-Chunk-clause-items c = grind (arith, common_steps)

pub returns-in-Slot-clause-items : goal.returns-in-Slot-clause-items
returns-in-Slot-clause-items c = grind (arith, common_steps)

pub returns-in-Counts-clause-items : goal.returns-in-Counts-clause-items
returns-in-Counts-clause-items c = grind (arith, common_steps)
