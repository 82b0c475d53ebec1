use Rattle.pool_desk.proofs.ByClassLaws.{own_joined}
use Rattle.pool_desk.proofs.homes.Homes.owner.Goals as goal

pub returns-clause-own : goal.returns-clause-own
returns-clause-own c = rw (← c.self.view_is) (own_joined _ _ c.self.invariant)
