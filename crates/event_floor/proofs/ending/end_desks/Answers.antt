use Rattle.std.proofs.Common.{◌++◌, flat_map, sym, ap, ◌∙◌}
use Rattle.event_floor.specs.headline.EndsKnown.{buffers_with}
use Rattle.event_floor.specs.headline.Names.{chunks_of}
use Rattle.event_floor.proofs.EndLaws.{last_joined, last_ends_somehow}
use Rattle.event_floor.proofs.ending.end_desks.Goals as goal

pub loop-desk-preserved : goal.loop-desk-preserved
loop-desk-preserved c =
    let rest = c.pop.new.self.items in
    let s = c.in-Some.desk in
    let old = c.loop-desk.endings in
    let is = c.in-Some.ensures.items in
    record {
      chunks = ap (λ cs. flat_map chunks_of rest ++ cs) c.end.ensures.chunks
          ∙ (sym (last_joined chunks_of rest s old.chunks) ∙ (ap (λ xs. flat_map chunks_of xs ++ old.chunks) (sym is) ∙ c.loop-desk.invariant.chunks));
      known = last_ends_somehow buffers_with c.loop-desk.desks.items rest s _ old.known c.end.new.endings.known c.loop-desk.invariant.known is c.end.ensures.known;
    }
