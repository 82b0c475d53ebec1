use Rattle.std.proofs.Common.{◌-◌, ◌≤◌}
use Rattle.seated_desk.specs.Bursts.{Adds}
use Rattle.seated_desk.specs.Kept.{LendsOnto}
use Rattle.seated_desk.proofs.station.Station.fill_up.Given as goal

abbrev pub invariant-loop-lent : goal.invariant-loop-lent
invariant-loop-lent l = record {
  adds : Adds l.size l.lent l.fn.parcel l.parcel;
  onto : LendsOnto l.fn.parcel l.parcel l.fn.self l.self;
  most : l.lent ≤ l.count;
}

abbrev pub decreases-loop-lent : goal.decreases-loop-lent
decreases-loop-lent l = l.count - l.lent
