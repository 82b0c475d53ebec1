use Rattle.std.proofs.Common.{take}
use Rattle.trace_audit.specs.Words.{Lacks}
use Rattle.trace_audit.proofs.grammar.words.cut_at.Given as goal

abbrev pub invariant-loop-at : goal.invariant-loop-at
invariant-loop-at l = Lacks l.mark (take l.at l.bytes)
