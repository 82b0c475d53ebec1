use Rattle.std.proofs.Common.{arith}
use Rattle.std.proofs.lemmas.Grind.{common_steps}
use Rattle.trace_audit.proofs.report.audits.push_fault.Goals as goal

pub returns-in-Stranger-clause-items : goal.returns-in-Stranger-clause-items
returns-in-Stranger-clause-items c = grind (arith, common_steps)
