use Rattle.std.proofs.Common.{◌++◌, length, map, sym, ap, ◌∙◌}
use Rattle.event_floor.specs.Chunks.{ended_part}
use Rattle.event_floor.proofs.ChunkLaws.{parts_ended}
use Rattle.event_floor.proofs.chunks.Chunks.end.Goals as goal

pub returns : goal.returns
returns c =
    let h = c.self.inside in
    rw (← c.self.view_is)
    (c.end_parts.ensures
    ∙ ap (λ es. record c.args.endings.now { known = es ++ c.args.endings.now.known })
    (ap (map ended_part) c.reverse.ensures.items ∙ sym (parts_ended (length h.drawn.items) h.names.all h.undrawn.items c.self.invariant.0)))
