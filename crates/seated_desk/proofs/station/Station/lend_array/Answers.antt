use Rattle.std.proofs.Common.{refl, ap}
use Rattle.pool_desk.specs.Desks.{DeskState}
use Rattle.slot_balance.proofs.Balanced.{lends_whole_balances, same_balances}
use Rattle.seated_desk.proofs.Claimed.{noted_same}
use Rattle.seated_desk.proofs.Moved.{onto_same, onto_whole}
use Rattle.seated_desk.proofs.station.Station.lend_array.Goals as goal

pub invariant_of-self-clause-noted : goal.invariant_of-self-clause-noted
invariant_of-self-clause-noted c =
    noted_same _ _ _ (ap (λ (d : DeskState). d.drawn) c.if-not-is_lent.ensures.0) c.args.self.now.noted

pub invariant_of-self-clause-balance : goal.invariant_of-self-clause-balance
invariant_of-self-clause-balance c =
    let s = c.args.self.now in same_balances s.desk _ s.take.taken s.lent s.freed _ s.balance c.if-not-is_lent.ensures.0

pub returns-then-not-is_lent-clause-station : goal.returns-then-not-is_lent-clause-station
returns-then-not-is_lent-clause-station c = onto_same _ _ _ _ c.if-not-is_lent.ensures.1 c.if-not-is_lent.ensures.0 refl refl refl

pub invariant_of-self-2-clause-noted : goal.invariant_of-self-2-clause-noted
invariant_of-self-2-clause-noted c =
    noted_same _ _ _ (ap (λ (d : DeskState). d.drawn) c.if-not-is_lent.ensures.0.same) c.args.self.now.noted

pub invariant_of-self-2-clause-balance : goal.invariant_of-self-2-clause-balance
invariant_of-self-2-clause-balance c =
    let s = c.args.self.now in
    lends_whole_balances s.desk _ s.take.taken s.lent s.freed _ c.args.class _ _ s.balance c.if-not-is_lent.ensures.0 (rw c.buffers.ensures at c.and_all-self.ensures)

pub returns-clause-station : goal.returns-clause-station
returns-clause-station c =
    let e = c.if-not-is_lent.ensures.0.same in
    onto_whole _ _ _ _ _ c.if-not-is_lent.ensures.1 (record {
      one = record { number = ap (λ (d : DeskState). d.number) e; digits = ap (λ (d : DeskState). d.digits) e; pool = refl };
      lent = rw c.buffers.ensures at c.and_all-self.ensures;
      freed = refl;
    })
