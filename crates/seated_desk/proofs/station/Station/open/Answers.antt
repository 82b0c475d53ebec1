use Rattle.std.proofs.Common.{ap}
use Rattle.pool_desk.specs.Desks.{DeskState}
use Rattle.seated_desk.proofs.Claimed.{noted_same}
use Rattle.slot_balance.proofs.Balanced.{same_balances}
use Rattle.seated_desk.proofs.station.Station.open.Goals as goal

pub invariant_of-self-clause-noted : goal.invariant_of-self-clause-noted
invariant_of-self-clause-noted c = noted_same _ _ _ (ap (λ (d : DeskState). d.drawn) c.parcel.ensures.same) c.args.self.now.noted

pub invariant_of-self-clause-balance : goal.invariant_of-self-clause-balance
invariant_of-self-clause-balance c =
    let s = c.args.self.now in same_balances s.desk _ s.take.taken s.lent s.freed _ s.balance c.parcel.ensures.same
