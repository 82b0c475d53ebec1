use Rattle.std.proofs.Common.{rules}
use Rattle.syslog_lines.specs.Heads.{IsEnd}
use Rattle.syslog_lines.proofs.Parts.{end_drop, end_end, part_split, parts_end}
use Rattle.syslog_lines.proofs.rfc3164.read_tag.Goals as goal

pub returns-clause-parts : goal.returns-clause-parts
returns-clause-parts c =
    let behind : IsEnd c.args.text.now c.in_ok-app.rest.now = end_drop _ _ c.in_ok-end.end c.in_ok-app.ensures.cases.2 in
    record {
      time = search rules;
      host = search rules;
      app = part_split _ _ c.in_ok-app.rest.now c.in_ok-end.end c.in_ok-app.ensures.cases;
      procid = parts_end _ _ _ behind c.in_ok-procid.ensures.process;
      msgid = search rules;
      structured = search rules;
      message = end_end _ _ _ behind (end_end _ _ _ c.in_ok-procid.ensures.rest c.without_space.ensures);
    }
