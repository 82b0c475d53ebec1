use Rattle.std.proofs.Common.{arith}
use Rattle.std.proofs.lemmas.Grind.{common_steps}
use Rattle.trace_audit.proofs.grammar.words.cut_at.Goals as goal

pub loop-at-preserved : goal.loop-at-preserved
loop-at-preserved c = grind (arith, common_steps)

pub returns-then-byte-mark-clause-found : goal.returns-then-byte-mark-clause-found
returns-then-byte-mark-clause-found c = grind (arith, common_steps)
