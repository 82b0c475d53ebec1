use denote.Param.Send.{sendable}
use Rattle.seated_desk.proofs.Travels.{pool_send}
use Rattle.seated_desk.proofs.crossing.pool_crosses.Goals as goal

pub crosses-requires-send-T : goal.crosses-requires-send-T
crosses-requires-send-T c κs = search (sendable, pool_send) depth 40 fits 6000
