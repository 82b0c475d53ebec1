use Rattle.std.proofs.Common.{ap}
use Rattle.pool_desk.specs.Desks.{DeskState}
use Rattle.seated_desk.proofs.Claimed.{noted_same}
use Rattle.slot_balance.proofs.Balanced.{same_balances}
use Rattle.seated_desk.proofs.station.Station.post_again.Goals as goal

pub invariant_of-self-2-clause-noted : goal.invariant_of-self-2-clause-noted
invariant_of-self-2-clause-noted c = noted_same _ _ _ (ap (λ (d : DeskState). d.drawn) c.make_room.ensures) c.post-self.new.self.noted

pub invariant_of-self-2-clause-balance : goal.invariant_of-self-2-clause-balance
invariant_of-self-2-clause-balance c =
    let s = c.post-self.new.self in same_balances s.desk _ s.take.taken s.lent s.freed _ s.balance c.make_room.ensures
