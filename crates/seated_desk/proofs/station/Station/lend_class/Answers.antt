use Rattle.std.proofs.Common.{refl, ap, ◌∙◌}
use Rattle.std.specs.Prelude.{Ok}
use Rattle.pool_desk.specs.Desks.{DeskState}
use Rattle.slot_balance.proofs.Balanced.{lends_balances, same_balances}
use Rattle.seated_desk.proofs.Claimed.{noted_same}
use Rattle.seated_desk.proofs.DrawnSame.{alloc_noted}
use Rattle.seated_desk.proofs.Seated.{seated_same}
use Rattle.seated_desk.proofs.station.Station.lend_class.Goals as goal

pub invariant_of-self-clause-noted : goal.invariant_of-self-clause-noted
invariant_of-self-clause-noted c =
    let s = c.args.self.now in alloc_noted s.drawer.drawn s.desk c.args.class (Ok c.in-Ok.buf) c.alloc_class.new.self c.in-Ok.ensures s.noted

pub invariant_of-self-clause-balance : goal.invariant_of-self-clause-balance
invariant_of-self-clause-balance c =
    let s = c.args.self.now in
    lends_balances s.desk _ s.take.taken s.lent s.freed _ c.args.class c.in-Ok.buf c.alloc_class.new.self s.balance c.in-Ok.ensures c.and-self.ensures

pub invariant_of-self-in-Err-1 : goal.invariant_of-self-in-Err-1
invariant_of-self-in-Err-1 c =
    let s = c.args.self.now in
    let same = c.in-Err.ensures.1 in
    record {
      noted = noted_same _ _ _ (ap (λ (d : DeskState). d.drawn) same) s.noted;
      bits = ap (λ (d : DeskState). d.digits.bits) same ∙ s.bits;
      seated = seated_same _ _ _ _ _ _ _ _ (ap (λ (d : DeskState). d.digits) same) (ap (λ (d : DeskState). d.number) same) refl s.seated;
      balance = same_balances s.desk _ s.take.taken s.lent s.freed c.alloc_class.new.self s.balance same;
    }

pub invariant_of-self-clause-seated : goal.invariant_of-self-clause-seated
invariant_of-self-clause-seated c =
    let s = c.args.self.now in
    let same = c.in-Ok.ensures.1 in
    seated_same _ _ _ _ _ _ _ _ (ap (λ (d : DeskState). d.digits) same) (ap (λ (d : DeskState). d.number) same) refl s.seated
