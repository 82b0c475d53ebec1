use denote.Param.Send.{sendable}
use Rattle.seated_desk.proofs.Travels.{burst_send}
use Rattle.seated_desk.proofs.crossing.burst_crosses.Goals as goal

pub crosses-requires-send-T : goal.crosses-requires-send-T
crosses-requires-send-T c κs = search (sendable, burst_send) depth 40 fits 6000
