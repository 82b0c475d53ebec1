use denote.Exit.{no}
use denote.Ref.{NamedLft}
use denote.Param.Send.{IsSend, sendable, param_send, arg_send}
use Rattle.std.proofs.Crossing.{crosses}
use Rattle.pool_desk.proofs.Travels.{desk_send}
use Rattle.pool_fabric.proofs.Travels.{seat_send}
use Rattle.inbox_tests.proofs.Travels.{posting_send}
use Rattle.inbox_tests.specs.contracts.tests.leaving.Leaving as Leaving
use Rattle.inbox_tests.proofs.tests.leaving.leaves.Goals as goal

leaving_send : (a : NamedLft) → IsSend (Leaving.the_row a)
leaving_send a = search (sendable, crosses, desk_send) depth 40 fits 6000

pub run_beside-seat-requires-send-X : goal.run_beside-seat-requires-send-X
run_beside-seat-requires-send-X g c κs within = param_send _ _ (arg_send _ no _ (leaving_send (record { mir = _; lft = _ })))

pub run_beside-seat-requires-send-W : goal.run_beside-seat-requires-send-W
run_beside-seat-requires-send-W g c κs within =
    param_send _ _ (arg_send _ no _ (posting_send (record { mir = _; lft = _ }) (record { mir = _; lft = _ })))

pub run_beside-seat-requires-send-D : goal.run_beside-seat-requires-send-D
run_beside-seat-requires-send-D g c κs within = search (sendable, crosses, seat_send) depth 40 fits 6000
