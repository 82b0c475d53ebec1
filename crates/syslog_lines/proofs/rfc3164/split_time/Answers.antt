use Rattle.syslog_lines.proofs.Parts.{end_behind, part_split}
use Rattle.syslog_lines.proofs.rfc3164.split_time.Goals as goal

pub returns-then-is_short_time-clause-time : goal.returns-then-is_short_time-clause-time
returns-then-is_short_time-clause-time c = part_split _ _ c.in_ok-time.behind.now 15 c.in_ok-time.ensures.cases

pub returns-then-is_short_time-clause-rest : goal.returns-then-is_short_time-clause-rest
returns-then-is_short_time-clause-rest c =
    end_behind _ c.in_ok-time.time.now c.in_ok-time.behind.now _ 15 c.in_ok-space.space.now c.in_ok-time.ensures.cases
    c.in_ok-space.ensures.cases.0
