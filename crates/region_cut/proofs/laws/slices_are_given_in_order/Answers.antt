use Rattle.region_cut.proofs.Rows.{given_in_order}
use Rattle.region_cut.proofs.laws.slices_are_given_in_order.Goals as goal

pub returns : goal.returns
returns c = given_in_order
