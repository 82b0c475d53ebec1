use Rattle.std.proofs.Common.{ap}
use Rattle.region_cut.specs.Endings.{EndingsState}
use Rattle.pool_desk.specs.Homes.{kept_in}
use Rattle.pool_desk.proofs.EndLaws.{desk_ends}
use Rattle.pool_desk.proofs.desk.Desk.end.Goals as goal

pub returns-clause-known : goal.returns-clause-known
returns-clause-known c =
    let d = c.self.inside in
    rw (← c.self.view_is) (desk_ends (kept_in d.homes.slots) d.cache.items c.args.endings.now.known c.end.new.endings.known c.end-2.new.endings.known
    (ap (λ (s : EndingsState). s.known) c.end.ensures) (ap (λ (s : EndingsState). s.known) c.end-2.ensures))
