use Rattle.std.proofs.Common.{◌≡◌, subst, arith}
use Rattle.pool_jobs.specs.Ends.{IsAccounted}
use Rattle.poolctl.proofs.work.tally_over.Goals as goal

pub returns : goal.returns
returns g c =
    let report = c.in_ok-report.report in
    let opening = c.in-Ok-opening.opening in
    let desks = c.in-Ok-opening.ensures.count in
    let few = c.requires.threads in
    let same : opening.count ≡ c.args.asked.now.threads = omega arith in
    (opening.chunks, report.found, subst (λ n. IsAccounted opening.chunks n report.found report.tally) same c.in_ok-report.ensures.accounted)
