use denote.Param.Send.{sendable}
use Rattle.link_uses.proofs.Travels.{link_inbox_send}
use Rattle.link_uses.proofs.crossing.inbox_crosses.Goals as goal

pub crosses-requires-send-T : goal.crosses-requires-send-T
crosses-requires-send-T c κs = search (sendable, link_inbox_send) depth 40 fits 6000
