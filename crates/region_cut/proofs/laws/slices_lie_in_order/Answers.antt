use Rattle.region_cut.proofs.Rows.{slices_lie}
use Rattle.region_cut.proofs.laws.slices_lie_in_order.Goals as goal

pub returns : goal.returns
returns c = slices_lie
