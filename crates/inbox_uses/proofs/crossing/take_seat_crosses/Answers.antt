use denote.Param.Send.{sendable}
use Rattle.std.proofs.Crossing.{crosses}
use Rattle.std.proofs.option.Option.TheSendSync.{the_send as option_send}
use Rattle.atomic_blocks.proofs.web.Seat.TheSendSync.{the_send as pass_send}
use Rattle.digit_route.proofs.Travels.{batch_send}
use Rattle.inbox_uses.proofs.crossing.take_seat_crosses.Goals as goal

pub crosses-requires-send-T : goal.crosses-requires-send-T
crosses-requires-send-T c κs = search (sendable, crosses, option_send, pass_send, batch_send) depth 40 fits 6000
