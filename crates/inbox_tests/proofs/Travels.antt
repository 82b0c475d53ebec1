-- What the tests give to other threads.
use denote.Ref.{NamedLft}
use denote.Param.Send.{IsSend, sendable}
use Rattle.std.proofs.Crossing.{crosses}
use Rattle.digit_route.proofs.Travels.{batch_send}
use Rattle.pool_fabric.proofs.Travels.{inbox_sync, seat_send, take_send}
use Rattle.inbox_uses.specs.contracts.posting.Posting as Posting
use Rattle.inbox_uses.specs.contracts.taking.Taking as Taking

pub posting_send : (a s : NamedLft) → IsSend (Posting.the_row a s)
posting_send a s = search (sendable, crosses, batch_send, seat_send, inbox_sync) depth 40 fits 6000

pub taking_send : (a s : NamedLft) → IsSend (Taking.the_row a s)
taking_send a s = search (sendable, crosses, take_send, inbox_sync) depth 40 fits 6000
