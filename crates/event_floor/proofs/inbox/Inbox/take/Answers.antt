use Rattle.event_floor.proofs.RiseLaws.{rises_behind}
use Rattle.event_floor.proofs.inbox.Inbox.take.Goals as goal

pub invariant_of-self-2 : goal.invariant_of-self-2
invariant_of-self-2 c = rises_behind _ _ _ c.in_ok-front.ensures.items c.self.invariant
