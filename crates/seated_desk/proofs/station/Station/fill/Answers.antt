use Rattle.std.proofs.Common.{Some, refl, sym, subst}
use Rattle.seated_desk.specs.Kept.{LendsBurst}
use Rattle.seated_desk.proofs.Moved.{onto_same}
use Rattle.seated_desk.proofs.station.Station.fill.Goals as goal

pub returns-then-burst-self-clause-station : goal.returns-then-burst-self-clause-station
returns-then-burst-self-clause-station c =
    subst (λ o. LendsBurst o (Some c.in-Some.parcel) c.args.self.now c.args.self.now) (sym c.in-Some.is) (onto_same _ _ _ _ refl refl refl refl refl)

pub returns-then-owner-number-clause-station : goal.returns-then-owner-number-clause-station
returns-then-owner-number-clause-station c =
    subst (λ o. LendsBurst o (Some c.in-Some.parcel) c.args.self.now c.args.self.now) (sym c.in-Some.is) (onto_same _ _ _ _ refl refl refl refl refl)
