use Rattle.event_floor.proofs.headline.Kept.{fresh_stay}
use Rattle.event_floor.proofs.laws.fresh_bytes_stay.Goals as goal

pub returns : goal.returns
returns c = fresh_stay
