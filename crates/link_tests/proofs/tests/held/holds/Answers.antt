use denote.Exit.{no}
use denote.Ref.{NamedLft}
use denote.Param.Send.{IsSend, sendable, param_send, arg_send}
use Rattle.std.proofs.Crossing.{crosses}
use Rattle.digit_route.proofs.Travels.{batch_send}
use Rattle.link_inbox.proofs.Travels.{link_inbox_sync, seat_send, take_send}
use Rattle.link_tests.specs.contracts.tests.held.Behind as Behind
use Rattle.link_tests.specs.contracts.tests.held.Held as Held
use Rattle.link_tests.proofs.tests.held.holds.Goals as goal

behind_send : (a b : NamedLft) → IsSend (Behind.the_row a b)
behind_send a b = search (sendable, crosses, batch_send, seat_send, take_send, link_inbox_sync) depth 40 fits 6000

held_send : (a b : NamedLft) → IsSend (Held.the_row a b)
held_send a b = search (sendable, crosses, batch_send, seat_send, link_inbox_sync) depth 40 fits 6000

pub run_beside-went_on-requires-send-W : goal.run_beside-went_on-requires-send-W
run_beside-went_on-requires-send-W g c κs within =
    param_send _ _ (arg_send _ no _ (held_send (record { mir = _; lft = _ }) (record { mir = _; lft = _ })))

pub run_beside-went_on-requires-send-X : goal.run_beside-went_on-requires-send-X
run_beside-went_on-requires-send-X g c κs within =
    param_send _ _ (arg_send _ no _ (behind_send (record { mir = _; lft = _ }) (record { mir = _; lft = _ })))
