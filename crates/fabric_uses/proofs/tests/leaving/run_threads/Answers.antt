use denote.Exit.{no}
use denote.Ref.{NamedLft}
use denote.Param.Send.{IsSend, sendable, param_send, arg_send}
use Rattle.std.proofs.Crossing.{crosses}
use Rattle.digit_route.proofs.Travels.{buf_send}
use Rattle.pool_desk.proofs.Travels.{desk_send}
use Rattle.pool_fabric.proofs.Travels.{take_send, seat_send, inbox_sync}
use Rattle.fabric_uses.specs.contracts.tests.leaving.Freed as Freed
use Rattle.fabric_uses.specs.contracts.tests.leaving.Freeing as Freeing
use Rattle.fabric_uses.specs.contracts.tests.leaving.Leaving as Leaving
use Rattle.fabric_uses.proofs.tests.leaving.run_threads.Goals as goal

freed_send : (a : NamedLft) → IsSend (Freed.the_row a)
freed_send a = search (sendable, crosses, seat_send) depth 40 fits 6000

freeing_send : (a s : NamedLft) → IsSend (Freeing.the_row a s)
freeing_send a s = search (sendable, crosses, seat_send, inbox_sync, buf_send) depth 40 fits 6000

leaving_send : (a : NamedLft) → IsSend (Leaving.the_row a)
leaving_send a = search (sendable, crosses, desk_send, take_send, buf_send) depth 40 fits 6000

pub run_beside-freed-requires-send-D : goal.run_beside-freed-requires-send-D
run_beside-freed-requires-send-D g c κs within = param_send _ _ (arg_send _ no _ (freed_send (record { mir = _; lft = _ })))

pub run_beside-freed-requires-send-W : goal.run_beside-freed-requires-send-W
run_beside-freed-requires-send-W g c κs within =
    param_send _ _ (arg_send _ no _ (freeing_send (record { mir = _; lft = _ }) (record { mir = _; lft = _ })))

pub run_beside-freed-requires-send-X : goal.run_beside-freed-requires-send-X
run_beside-freed-requires-send-X g c κs within = param_send _ _ (arg_send _ no _ (leaving_send (record { mir = _; lft = _ })))
