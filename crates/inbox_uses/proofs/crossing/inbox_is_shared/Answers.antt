use denote.Param.Send.{sendable}
use Rattle.std.proofs.Crossing.{crosses}
use Rattle.std.proofs.option.Option.TheSendSync.{the_send as option_send}
use Rattle.atomic_blocks.proofs.web.Web.TheSendSync.{the_sync as line_sync}
use Rattle.digit_route.proofs.Travels.{batch_send, empty_send}
use Rattle.inbox_uses.proofs.crossing.inbox_is_shared.Goals as goal

pub is_shared-requires-sync-T : goal.is_shared-requires-sync-T
is_shared-requires-sync-T c κs = search (sendable, crosses, option_send, line_sync, batch_send, empty_send) depth 40 fits 6000
