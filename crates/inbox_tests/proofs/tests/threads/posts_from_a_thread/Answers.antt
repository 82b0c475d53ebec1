use denote.Exit.{no}
use denote.Param.Send.{param_send, arg_send, sendable}
use Rattle.std.proofs.Crossing.{crosses}
use Rattle.pool_fabric.proofs.Travels.{seat_send}
use Rattle.inbox_tests.proofs.Travels.{posting_send}
use Rattle.inbox_tests.proofs.tests.threads.posts_from_a_thread.Goals as goal

pub run_all-requires-send-W : goal.run_all-requires-send-W
run_all-requires-send-W g c κs within =
    param_send _ _ (arg_send _ no _ (posting_send (record { mir = _; lft = _ }) (record { mir = _; lft = _ })))

pub run_all-requires-send-D : goal.run_all-requires-send-D
run_all-requires-send-D g c κs within = search (sendable, crosses, seat_send) depth 40 fits 6000
