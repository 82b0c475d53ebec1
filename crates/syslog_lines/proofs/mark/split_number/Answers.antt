use Rattle.std.proofs.Common.{arith, rules, length, subst, sym}
use Rattle.syslog_lines.proofs.Bytes.{number_ahead}
use Rattle.syslog_lines.proofs.mark.split_number.Goals as goal

pub returns-clause-whole : goal.returns-clause-whole
returns-clause-whole c =
    number_ahead c.args.bytes.now c.in_ok-number.number.now c.in_ok-number.rest.now c.from_le_bytes.result
    c.type_inv.bytes c.from_le_bytes.ensures (c.in_ok-number.ensures).cases.0 (c.in_ok-number.ensures).cases.1 (search rules)
