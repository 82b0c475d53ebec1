use Rattle.seated_desk.specs.Kept.{IsSameStation}
use Rattle.seated_desk.proofs.station.Station.take_on.Given as goal

abbrev pub invariant-loop : goal.invariant-loop
invariant-loop l = IsSameStation l.initial.self l.self
