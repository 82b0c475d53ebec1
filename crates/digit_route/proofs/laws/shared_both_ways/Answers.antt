use Rattle.digit_route.proofs.SharedLaws.{shared_both_ways}
use Rattle.digit_route.proofs.laws.shared_both_ways.Goals as goal

pub returns : goal.returns
returns c = shared_both_ways
