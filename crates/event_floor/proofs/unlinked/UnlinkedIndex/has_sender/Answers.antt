use Rattle.std.proofs.Common.{◌<◌, length, sym, subst}
use Rattle.event_floor.specs.Unlinked.{UnlinkedState}
use Rattle.event_floor.proofs.UnlinkedLaws.{tells_sent, counted_read}
use Rattle.event_floor.proofs.unlinked.UnlinkedIndex.has_sender.Goals as goal

pub returns : goal.returns
returns c =
    let there : c.args.sender < length c.self.inside.by_sender.items = subst (λ (z : UnlinkedState). c.args.sender < z.desks) (sym c.self.view_is) c.requires in
    let is = counted_read c.self.inside.by_sender.items c.self.inside.by_number.entries c.args.sender c.index.result.now c.self.invariant there c.index.ensures in
    rw (← c.self.view_is) (tells_sent c.args.sender c.index.result.now c.self.inside.by_number.entries c.self.invariant.distinct is)
