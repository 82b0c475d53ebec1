use Rattle.syslog_lines.proofs.Parts.{end_end, end_first, parts_end}
use Rattle.syslog_lines.proofs.rfc3164.split_process.Goals as goal

pub returns-in_ok-procid-in-91-clause-process : goal.returns-in_ok-procid-in-91-clause-process
returns-in_ok-procid-in-91-clause-process c =
    parts_end _ c.in_ok-first.rest.now _ (end_first _ _ c.in_ok-first.first.now c.in_ok-first.ensures.cases.0)
    c.in_ok-procid-in-91.ensures.process

pub returns-in_ok-procid-in-91-clause-rest : goal.returns-in_ok-procid-in-91-clause-rest
returns-in_ok-procid-in-91-clause-rest c =
    end_end _ c.in_ok-first.rest.now _ (end_first _ _ c.in_ok-first.first.now c.in_ok-first.ensures.cases.0)
    c.in_ok-procid-in-91.ensures.rest
