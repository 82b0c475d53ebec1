use Rattle.syslog_lines.specs.Heads.{IsEnd}
use Rattle.syslog_lines.proofs.Parts.{end_drop, end_end, parts_end}
use Rattle.syslog_lines.proofs.rfc5424.read_rfc5424.Goals as goal

pub returns-clause-parts : goal.returns-clause-parts
returns-clause-parts c =
    let begun : IsEnd c.args.rest.now c.in_ok-rest.rest.now = end_drop _ _ _ c.in_ok-rest.ensures.cases.1 in
    let time : IsEnd c.args.rest.now c.in_ok-time.rest.now = end_end _ _ _ begun c.in_ok-time.ensures.rest in
    let host : IsEnd c.args.rest.now c.in_ok-host.rest.now = end_end _ _ _ time c.in_ok-host.ensures.rest in
    let app : IsEnd c.args.rest.now c.in_ok-app.rest.now = end_end _ _ _ host c.in_ok-app.ensures.rest in
    let procid : IsEnd c.args.rest.now c.in_ok-procid.rest.now = end_end _ _ _ app c.in_ok-procid.ensures.rest in
    let msgid : IsEnd c.args.rest.now c.in_ok-msgid.rest.now = end_end _ _ _ procid c.in_ok-msgid.ensures.rest in
    record {
      time = parts_end _ _ _ begun c.in_ok-time.ensures.word;
      host = parts_end _ _ _ time c.in_ok-host.ensures.word;
      app = parts_end _ _ _ host c.in_ok-app.ensures.word;
      procid = parts_end _ _ _ app c.in_ok-procid.ensures.word;
      msgid = parts_end _ _ _ procid c.in_ok-msgid.ensures.word;
      structured = parts_end _ _ _ msgid c.in_ok-data.ensures.elements;
      message = end_end _ _ _ msgid c.in_ok-data.ensures.rest;
    }
