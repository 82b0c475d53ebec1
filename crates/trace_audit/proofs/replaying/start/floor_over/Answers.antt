use Rattle.trace_audit.proofs.Openings.{opens}
use Rattle.trace_audit.proofs.replaying.start.floor_over.Goals as goal

pub returns-in-Ok : goal.returns-in-Ok
returns-in-Ok c = opens c.args.header c.args.region.now _ _ c.new.result c.requires.region
    (c.parts_make_the_whole.ensures c.args.region.now c.in-Ok.parts.items c.in-Ok.ensures.parts.1).0 c.in-Some.ensures.value c.new.ensures.shows
