use denote.Param.Send.{sendable}
use Rattle.std.proofs.Crossing.{crosses}
use Rattle.pool_desk.proofs.Travels.{desk_send}
use Rattle.desk_uses.proofs.crossing.desk_crosses.Goals as goal

pub crosses-requires-send-T : goal.crosses-requires-send-T
crosses-requires-send-T c κs = search (sendable, crosses, desk_send) depth 40 fits 6000
