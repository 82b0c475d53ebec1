use Rattle.event_floor.proofs.IndexLaws.{tells_unlinked}
use Rattle.event_floor.proofs.inboxes.Inboxes.has_unlinked_of.Goals as goal

pub returns : goal.returns
returns c = rw (← c.self.view_is) (tells_unlinked c.self.inside.inboxes.items c.self.inside.unlinked c.args.sender c.has_sender.result c.self.invariant c.has_sender.ensures)
