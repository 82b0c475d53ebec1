use denote.Param.Send.{sendable}
use Rattle.link_inbox.proofs.Travels.{take_send}
use Rattle.link_uses.proofs.crossing.take_seat_crosses.Goals as goal

pub crosses-requires-send-T : goal.crosses-requires-send-T
crosses-requires-send-T c κs = search (sendable, take_send) depth 40 fits 6000
