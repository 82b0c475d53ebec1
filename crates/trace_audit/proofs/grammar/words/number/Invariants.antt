use Rattle.std.proofs.Common.{take}
use Rattle.trace_audit.proofs.Numbers.{IsRead}
use Rattle.trace_audit.proofs.grammar.words.number.Given as goal

abbrev pub invariant-loop-at : goal.invariant-loop-at
invariant-loop-at l = IsRead (take l.at l.bytes) l.value
