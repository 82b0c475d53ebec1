use Rattle.std.proofs.Common.{refl}
use Rattle.seated_desk.proofs.Claimed.{noted_same}
use Rattle.seated_desk.proofs.DrawnSame.{free_keeps}
use Rattle.slot_balance.proofs.DeskSums.{got_back_drawn}
use Rattle.slot_balance.proofs.Balanced.{frees_balances}
use Rattle.seated_desk.proofs.Seated.{seated_same}
use Rattle.seated_desk.proofs.station.Station.free.Goals as goal

pub invariant_of-self-clause-noted : goal.invariant_of-self-clause-noted
invariant_of-self-clause-noted c =
    let d = c.args.self.now.desk in
    noted_same c.args.self.now.drawer.drawn d.drawn c.free.new.self.drawn (free_keeps d c.in-Some-take.buf c.free.result c.free.new.self c.free.ensures) c.args.self.now.noted

pub invariant_of-self-clause-balance : goal.invariant_of-self-clause-balance
invariant_of-self-clause-balance c =
    let s = c.args.self.now in
    frees_balances s.desk _ s.take.taken s.lent s.freed _ c.in-Some-take.buf c.free.result c.free.new.self s.balance c.free.ensures c.and-self.ensures

pub invariant_of-self-clause-seated : goal.invariant_of-self-clause-seated
invariant_of-self-clause-seated c =
    let s = c.args.self.now in
    let same = got_back_drawn s.desk c.in-Some-take.buf c.free.result c.free.new.self c.free.ensures in
    seated_same _ _ _ _ _ _ _ _ same.2 same.1 refl s.seated
