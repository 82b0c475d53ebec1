use Rattle.std.proofs.Common.{◌≡◌, ◌++◌, length}
use Rattle.syslog_lines.specs.Texts.{text_of}
use Rattle.syslog_lines.proofs.escape.push_text.Given as goal

abbrev pub invariant-loop-byte : goal.invariant-loop-byte
invariant-loop-byte l = l.out.items ++ text_of l.coding l.rest ≡ l.fn.out.items ++ text_of l.coding l.bytes

abbrev pub decreases-loop-byte : goal.decreases-loop-byte
decreases-loop-byte l = length l.rest
