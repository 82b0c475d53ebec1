use Rattle.std.proofs.Common.{◌∙◌, ap, sym}
use Rattle.pool_fabric.specs.Stations.{StationState}
use Rattle.pool_jobs.proofs.allocator.Allocator.collect_on.Goals as goal

pub returns : goal.returns
returns g c =
    let s = c.loop.invariant in
    let digits = ap (λ (t : StationState). t.desk.digits) (sym c.self-2.view_is) ∙ c.recall.ensures.digits in
    record { desk = record { number = s.number; digits = digits }; lent = s.lent; freed = s.freed }
