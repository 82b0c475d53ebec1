use Rattle.std.proofs.Common.{arith, rules}
use Rattle.syslog_lines.proofs.Numbers.{decimal_more}
use Rattle.syslog_lines.proofs.priority.number_of_two.Goals as goal

pub returns-else-tens-eq0-clause-text : goal.returns-else-tens-eq0-clause-text
returns-else-tens-eq0-clause-text c =
    decimal_more c.in_ok-tens.tens c.in_ok-ones.ones c.args.b _ (grind (arith, c.in_ok-tens.ensures)) (grind (arith, c.in_ok-ones.ensures)) (grind (arith, c.in_ok-tens.ensures))
    c.in_ok-tens.ensures.text c.in_ok-ones.ensures.text
