use denote.Exit.{no}
use denote.Param.Send.{param_send, arg_send}
use Rattle.pool_fabric.proofs.Travels.{inbox_sync, take_send, seat_send}
use Rattle.pool_jobs.proofs.Travels.{builder_send, result_send}
use Rattle.pool_jobs.proofs.over_inbox.all_rounds.Goals as goal

pub run_round-requires-send-S : goal.run_round-requires-send-S
run_round-requires-send-S g c κs within =
    param_send _ _ (arg_send _ no _ (builder_send (record { mir = _; lft = _ }) (record { mir = _; lft = _ }) _ _ _ _ _ _ _ _ _ _
    (inbox_sync (record { mir = _; lft = _ })) c.type_bounds.sync-G (take_send (record { mir = _; lft = _ })) (seat_send (record { mir = _; lft = _ })) c.type_bounds.send-N))

pub run_round-requires-send-S-Outcome : goal.run_round-requires-send-S-Outcome
run_round-requires-send-S-Outcome g c κs within =
    param_send _ _ (arg_send _ no _ (result_send (record { mir = _; lft = _ }) _ _ _ _ _ _ (take_send (record { mir = _; lft = _ })) (seat_send (record { mir = _; lft = _ }))))
