use Rattle.std.proofs.Common.{◌≡◌, ◌≤◌, ℕ, length, arith}
use Rattle.std.specs.Prelude.{IfSome}
use Rattle.std.specs.List.{AllZip}
use Rattle.std.proofs.lemmas.Slice.Zip.{AllZip-long}
use Rattle.pool_fabric.specs.Opened.{most_desks}
use Rattle.pool_jobs.specs.Promises.{FirstHave}
use Rattle.pool_jobs.proofs.Promised.{passed_on}
use Rattle.pool_jobs.proofs.over_inbox.run_named.Goals as goal

pub returns-clause-answers : goal.returns-clause-answers
returns-clause-answers g c =
    passed_on c.settle_tasks.result (λ e. e.answers) (λ a. length a.items ≡ length c.args.tasks.items) c.in_ok-report.report.answers
    (AllZip-long _ _ _ c.in_ok-report.ensures.promised) c.settle_tasks.ensures.answers

pub returns-clause-promised : goal.returns-clause-promised
returns-clause-promised g c =
    passed_on c.settle_tasks.result (λ e. e.answers) (λ a. AllZip (λ t x. IfSome x (g.K.Task.gives t)) c.args.tasks.items a.items) c.in_ok-report.report.answers
    c.in_ok-report.ensures.promised c.settle_tasks.ensures.answers

pub returns-clause-begun : goal.returns-clause-begun
returns-clause-begun g c =
    let wanted = c.min-wanted.ensures in
    let most = c.in_ok-workers.ensures.most in
    passed_on c.settle_tasks.result (λ e. e.answers) (λ a. (n : ℕ) × (n ≤ most_desks) × FirstHave (λ x. x) n a.items) c.in_ok-report.report.answers
    (_, omega arith, c.in_ok-report.ensures.begun) c.settle_tasks.ensures.answers
