use denote.Exit.{no}
use denote.Param.Send.{param_send, arg_send, sendable}
use Rattle.std.proofs.Crossing.{crosses}
use Rattle.link_inbox.proofs.Travels.{seat_send, take_send}
use Rattle.link_tests.proofs.Travels.{sending_send, taking_send}
use Rattle.link_tests.proofs.tests.threads.storm.Goals as goal

pub run_both-posted-requires-send-W : goal.run_both-posted-requires-send-W
run_both-posted-requires-send-W g c κs within =
    param_send _ _ (arg_send _ no _ (sending_send (record { mir = _; lft = _ }) (record { mir = _; lft = _ })))

pub run_both-posted-requires-send-X : goal.run_both-posted-requires-send-X
run_both-posted-requires-send-X g c κs within =
    param_send _ _ (arg_send _ no _ (taking_send (record { mir = _; lft = _ }) (record { mir = _; lft = _ })))

pub run_both-posted-requires-send-D : goal.run_both-posted-requires-send-D
run_both-posted-requires-send-D g c κs within = search (sendable, crosses, seat_send) depth 40 fits 6000

pub run_both-posted-requires-send-E : goal.run_both-posted-requires-send-E
run_both-posted-requires-send-E g c κs within = search (sendable, crosses, take_send) depth 40 fits 6000
