use Rattle.event_floor.proofs.headline.Counts.{floor_tells}
use Rattle.event_floor.proofs.laws.floors_tell_counts.Goals as goal

pub returns : goal.returns
returns c = floor_tells
