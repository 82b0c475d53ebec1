use denote.Param.Send.{sendable}
use Rattle.std.proofs.Crossing.{crosses}
use Rattle.digit_route.proofs.Travels.{cache_send}
use Rattle.pool_desk.proofs.Travels.{homes_send}
use Rattle.desk_uses.proofs.crossing.idle_desk_crosses.Goals as goal

pub crosses-requires-send-T : goal.crosses-requires-send-T
crosses-requires-send-T c κs = search (sendable, crosses, cache_send, homes_send) depth 40 fits 6000
