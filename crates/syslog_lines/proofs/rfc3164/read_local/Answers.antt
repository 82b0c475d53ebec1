use Rattle.syslog_lines.specs.Heads.{IsEnd}
use Rattle.syslog_lines.proofs.Parts.{end_end, parts_end}
use Rattle.syslog_lines.proofs.rfc3164.read_local.Goals as goal

pub returns-clause-parts : goal.returns-clause-parts
returns-clause-parts c =
    let end : IsEnd c.args.rest.now c.split_host.result.1.now = end_end _ _ _ c.in_ok-time.ensures.rest c.split_host.ensures.rest in
    let head = c.read_tag_or_none-head.ensures.parts in
    record {
      time = c.in_ok-time.ensures.time;
      host = parts_end _ _ _ c.in_ok-time.ensures.rest c.split_host.ensures.host;
      app = parts_end _ _ _ end head.app;
      procid = parts_end _ _ _ end head.procid;
      msgid = parts_end _ _ _ end head.msgid;
      structured = parts_end _ _ _ end head.structured;
      message = end_end _ _ _ end head.message;
    }
