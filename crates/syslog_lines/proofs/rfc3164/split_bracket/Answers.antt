use Rattle.syslog_lines.proofs.Parts.{end_behind, end_end, end_first}
use Rattle.syslog_lines.proofs.rfc3164.split_bracket.Goals as goal

pub returns-in-93-eq58-clause-rest : goal.returns-in-93-eq58-clause-rest
returns-in-93-eq58-clause-rest c =
    end_end _ c.in_ok-bracket.rest.now _
    (end_behind _ c.in_ok-procid.procid.now c.in_ok-procid.behind.now _ c.in_ok-end.end c.in_ok-bracket.bracket.now
    c.in_ok-procid.ensures.cases c.in_ok-bracket.ensures.cases.0)
    (end_first _ _ c.in_ok-next.next.now c.in_ok-next.ensures.cases.0)
