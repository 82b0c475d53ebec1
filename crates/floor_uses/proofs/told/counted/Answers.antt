use Rattle.std.proofs.Common.{◌∙◌}
use Rattle.floor_uses.proofs.LentFloors.{counts_told}
use Rattle.floor_uses.proofs.told.counted.Goals as goal

pub returns : goal.returns
returns c =
    let shown = c.chunk_count-chunks.ensures in
    let t = counts_told c.floors_tell_counts.ensures c.args.floor.now shown.few shown.shows in
    let e = c.counts.ensures in
    (t.0, t.1, t.2, e.home ∙ t.3.home c.args.a, e.cached ∙ t.3.cached c.args.a, e.queued ∙ t.3.queued c.args.a)
