use denote.Param.Send.{sendable}
use Rattle.link_inbox.proofs.Travels.{link_inbox_sync}
use Rattle.link_uses.proofs.crossing.inbox_is_shared.Goals as goal

pub is_shared-requires-sync-T : goal.is_shared-requires-sync-T
is_shared-requires-sync-T c κs = search (sendable, link_inbox_sync) depth 40 fits 6000
