use denote.Param.Send.{sendable}
use Rattle.seated_desk.proofs.Travels.{seated_send}
use Rattle.seated_desk.proofs.crossing.allocator_crosses.Goals as goal

pub crosses-requires-send-T : goal.crosses-requires-send-T
crosses-requires-send-T c κs = search (sendable, seated_send) depth 40 fits 6000
