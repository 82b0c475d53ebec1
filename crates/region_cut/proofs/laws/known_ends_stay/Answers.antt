use Rattle.region_cut.proofs.Staying.{ends_stay}
use Rattle.region_cut.proofs.laws.known_ends_stay.Goals as goal

pub returns : goal.returns
returns c = ends_stay
