-- What the tests give to other threads.
use denote.Ref.{NamedLft}
use denote.Param.Send.{IsSend, sendable}
use Rattle.std.proofs.Crossing.{crosses}
use Rattle.digit_route.proofs.Travels.{batch_send}
use Rattle.link_inbox.proofs.Travels.{link_inbox_sync, seat_send, take_send}
use Rattle.link_uses.specs.contracts.sending.Sending as Sending
use Rattle.link_uses.specs.contracts.taking.Taking as Taking

pub sending_send : (a s : NamedLft) → IsSend (Sending.the_row a s)
sending_send a s = search (sendable, crosses, batch_send, seat_send, link_inbox_sync) depth 40 fits 6000

pub taking_send : (a s : NamedLft) → IsSend (Taking.the_row a s)
taking_send a s = search (sendable, crosses, take_send, link_inbox_sync) depth 40 fits 6000
