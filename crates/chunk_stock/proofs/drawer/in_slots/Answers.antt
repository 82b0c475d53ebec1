use Rattle.std.proofs.Common.{sym, ◌∙◌}
use Rattle.std.proofs.lemmas.List.{nil_from_length}
use Rattle.chunk_stock.proofs.Placed.{all_placed}
use Rattle.chunk_stock.proofs.drawer.in_slots.Goals as goal

pub returns : goal.returns
returns c =
    let i = c.loop-part.invariant in
    all_placed c.args.parts.items c.loop-part.yielded c.loop-part.part-iterator.rest.items c.loop-part.slots.items i.slots i.joined
    (nil_from_length _ (sym c.loop-part.part-iterator.rest.ok.0 ∙ c.in-None.ensures.steps.0)) c.requires
