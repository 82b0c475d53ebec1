use Rattle.std.proofs.Common.{length}
use denote.Exit.{no}
use denote.Param.Send.{param_send, arg_send}
use Rattle.link_inbox.proofs.Travels.{link_inbox_sync, take_send, seat_send}
use Rattle.pool_jobs.proofs.Travels.{heap_send, result_send}
use Rattle.std.specs.Prelude.{IfSome}
use Rattle.std.specs.List.{AllZip}
use Rattle.pool_jobs.specs.Promises.{FirstHave}
use Rattle.pool_jobs.proofs.Promised.{begun_answers, passed_on, promised_answers}
use Rattle.pool_jobs.proofs.over_link.all_tasks.Goals as goal

pub run_tasks-requires-send-W : goal.run_tasks-requires-send-W
run_tasks-requires-send-W g c κs within =
    param_send _ _ (arg_send _ no _ (heap_send (record { mir = _; lft = _ }) (record { mir = _; lft = _ }) _ _ _ _ _ _ _ _ _
    (link_inbox_sync (record { mir = _; lft = _ })) c.type_bounds.sync-G (take_send (record { mir = _; lft = _ })) (seat_send (record { mir = _; lft = _ }))))

pub run_tasks-requires-send-W-Outcome : goal.run_tasks-requires-send-W-Outcome
run_tasks-requires-send-W-Outcome g c κs within =
    param_send _ _ (arg_send _ no _ (result_send (record { mir = _; lft = _ }) _ _ _ _ _ _ (take_send (record { mir = _; lft = _ })) (seat_send (record { mir = _; lft = _ }))))

pub returns-clause-promised : goal.returns-clause-promised
returns-clause-promised g c =
    passed_on c.report_tasks.result (λ r. r.answers.items) (AllZip (λ t a. IfSome a (g.K.Task.gives t)) c.args.tasks.items) _
    (promised_answers g.K.Task.gives (λ r. r.answer) c.args.tasks.items _ c.in_ok-results.ensures.promised) c.report_tasks.ensures.answers

pub returns-clause-begun : goal.returns-clause-begun
returns-clause-begun g c =
    passed_on c.report_tasks.result (λ r. r.answers.items) (FirstHave (λ a. a) (length c.args.workers.items)) _
    (begun_answers (λ r. r.answer) (length c.args.workers.items) _ c.in_ok-results.ensures.begun) c.report_tasks.ensures.answers
