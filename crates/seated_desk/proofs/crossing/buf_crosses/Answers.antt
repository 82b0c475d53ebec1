use denote.Param.Send.{sendable}
use Rattle.seated_desk.proofs.Travels.{buf_handle_send}
use Rattle.seated_desk.proofs.crossing.buf_crosses.Goals as goal

pub crosses-requires-send-T : goal.crosses-requires-send-T
crosses-requires-send-T c κs = search (sendable, buf_handle_send) depth 40 fits 6000
