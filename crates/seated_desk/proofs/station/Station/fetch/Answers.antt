use Rattle.std.proofs.Common.{refl, ap}
use Rattle.pool_desk.specs.Desks.{DeskState}
use Rattle.seated_desk.proofs.Claimed.{noted_drawn, notes_same}
use Rattle.slot_balance.proofs.Balanced.{claims_balances}
use Rattle.seated_desk.proofs.Seated.{seated_same}
use Rattle.seated_desk.proofs.station.Station.fetch.Goals as goal

pub invariant_of-self-in_default-clause-noted : goal.invariant_of-self-in_default-clause-noted
invariant_of-self-in_default-clause-noted c = notes_same _ _ c.take.new.self.desk.drawn c.in_default.ensures c.take.new.self.noted

pub invariant_of-self-2-clause-noted : goal.invariant_of-self-2-clause-noted
invariant_of-self-2-clause-noted c =
    noted_drawn c.take.new.self.drawer.drawn c.draw.new.self.drawn c.take.new.self.desk.drawn c.claim_needed.new.self.drawn c.in-Some.part c.args.class c.claim_needed.ensures.drawn c.in-Some.ensures c.take.new.self.noted

pub invariant_of-self-2-clause-balance : goal.invariant_of-self-2-clause-balance
invariant_of-self-2-clause-balance c =
    let s = c.take.new.self in claims_balances s.desk _ s.take.taken s.lent s.freed c.in-Some.part c.args.class c.claim_needed.new.self s.balance c.claim_needed.ensures

pub invariant_of-self-2-clause-seated : goal.invariant_of-self-2-clause-seated
invariant_of-self-2-clause-seated c =
    let e = c.claim_needed.ensures.same in
    seated_same _ _ _ _ _ _ _ _ (ap (λ (d : DeskState). d.digits) e) (ap (λ (d : DeskState). d.number) e) refl c.take.new.self.seated
