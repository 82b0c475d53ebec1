use Rattle.digit_route.proofs.SharedLaws.{shared_at_most_all}
use Rattle.digit_route.proofs.laws.shared_at_most_all.Goals as goal

pub returns : goal.returns
returns c = shared_at_most_all
