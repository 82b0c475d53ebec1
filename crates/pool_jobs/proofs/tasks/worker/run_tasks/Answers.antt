use Rattle.std.proofs.Common.{length}
use Rattle.std.proofs.lemmas.Result.{IfOk-weaker}
use Rattle.pool_jobs.proofs.Promised.{begun_by, promised_by}
use Rattle.pool_jobs.proofs.tasks.worker.run_tasks.Goals as goal

pub returns-clause-promised : goal.returns-clause-promised
returns-clause-promised g c =
    IfOk-weaker c.crew.result _ _
    (λ v h. promised_by g.K.Task.gives (λ j. j.task) (λ j. j.worker) (λ r. r.answer) c.args.tasks.items c.in_ok-jobs.jobs.items v.items c.in_ok-jobs.ensures.tasks h)
    c.crew.ensures.promised

pub returns-clause-begun : goal.returns-clause-begun
returns-clause-begun g c =
    IfOk-weaker c.crew.result _ _
    (λ v h. begun_by g.K.Task.gives (λ j. j.task) (λ j. j.worker) (λ r. r.answer) (length c.args.workers.items) c.in_ok-jobs.jobs.items v.items c.in_ok-jobs.ensures.workers h)
    c.crew.ensures.promised
