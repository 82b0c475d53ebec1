use Rattle.event_floor.proofs.headline.Ends.{unused_lies}
use Rattle.event_floor.proofs.naming.unused_slots_lie_at_their_ranges.Goals as goal

pub returns : goal.returns
returns c = λ end v names are u unnamed region at sizes ends. unused_lies c.slices_lie_in_order.ensures end v names are u unnamed region at sizes ends
