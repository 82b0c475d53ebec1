use Rattle.event_floor.proofs.headline.Listed.{floor_lists}
use Rattle.event_floor.proofs.laws.floors_list_slots.Goals as goal

pub returns : goal.returns
returns c = floor_lists
