use Rattle.syslog_lines.specs.Heads.{IsEnd}
use Rattle.syslog_lines.proofs.Parts.{end_end, end_priority, parts_end}
use Rattle.syslog_lines.proofs.head.Head.read.Goals as goal

pub returns-in-Some-clause-parts : goal.returns-in-Some-clause-parts
returns-in-Some-clause-parts c =
    let behind : IsEnd c.args.line.now c.in-Some.rest.now = end_priority _ _ c.in-Some.priority.0 c.in-Some.ensures in
    let head = c.read_behind.ensures.parts in
    record {
      time = parts_end _ _ _ behind head.time;
      host = parts_end _ _ _ behind head.host;
      app = parts_end _ _ _ behind head.app;
      procid = parts_end _ _ _ behind head.procid;
      msgid = parts_end _ _ _ behind head.msgid;
      structured = parts_end _ _ _ behind head.structured;
      message = end_end _ _ _ behind head.message;
    }
