use Rattle.std.proofs.Common.{◌≡◌, ℕ, ◌<◌, true, get_or}
use Rattle.syslog_lines.specs.Texts.{is_plain}
use Rattle.syslog_lines.proofs.escape.plain_len.Given as goal

abbrev pub invariant-loop-at : goal.invariant-loop-at
invariant-loop-at l = (k : ℕ) → k < l.at → is_plain l.coding (get_or l.bytes k 0) ≡ true
