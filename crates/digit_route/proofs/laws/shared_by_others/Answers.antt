use Rattle.digit_route.proofs.SharedLaws.{shared_by_others}
use Rattle.digit_route.proofs.laws.shared_by_others.Goals as goal

pub returns : goal.returns
returns c = shared_by_others
