use Rattle.pool_jobs.proofs.Accounts.{accounted}
use Rattle.pool_jobs.proofs.report.settle.Goals as goal

pub returns-clause-accounted : goal.returns-clause-accounted
returns-clause-accounted g c =
    let e = c.in_ok-found.ensures in
    accounted _ _ _ (record { counts = c.of-counts.result; audit = c.account-audit.result }) e.whole e.desks e.drawn (rw (c.deref.ensures.value, c.deref-2.ensures.value) at c.account-audit.ensures) e.bounded e.once c.of-counts.ensures.counts
