use Rattle.region_cut.proofs.Rows.{ranges_lie}
use Rattle.region_cut.proofs.laws.slots_lie_at_their_ranges.Goals as goal

pub returns : goal.returns
returns c = ranges_lie
