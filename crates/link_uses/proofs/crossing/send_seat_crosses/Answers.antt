use denote.Param.Send.{sendable}
use Rattle.link_inbox.proofs.Travels.{seat_send}
use Rattle.link_uses.proofs.crossing.send_seat_crosses.Goals as goal

pub crosses-requires-send-T : goal.crosses-requires-send-T
crosses-requires-send-T c κs = search (sendable, seat_send) depth 40 fits 6000
