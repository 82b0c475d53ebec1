use Rattle.region_cut.proofs.Numbered.{parts_make}
use Rattle.region_cut.proofs.laws.parts_make_the_whole.Goals as goal

pub returns : goal.returns
returns c = parts_make
