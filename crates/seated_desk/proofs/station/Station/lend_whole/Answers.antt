use Rattle.std.proofs.Common.{refl}
use Rattle.seated_desk.proofs.Moved.{onto_none, onto_later}
use Rattle.seated_desk.proofs.station.Station.lend_whole.Goals as goal

pub returns-then-count-eq0-clause-station : goal.returns-then-count-eq0-clause-station
returns-then-count-eq0-clause-station c = onto_none _ _ _ (record { one = record { number = refl; digits = refl; pool = refl }; lent = refl; freed = refl })

pub returns-in_default-clause-station : goal.returns-in_default-clause-station
returns-in_default-clause-station c = onto_none _ _ _ (record { one = record { number = refl; digits = refl; pool = refl }; lent = refl; freed = refl })

pub returns-clause-station : goal.returns-clause-station
returns-clause-station c = onto_later _ _ _ _ _ c.count_and_fetch.ensures c.lend_array.ensures.station
