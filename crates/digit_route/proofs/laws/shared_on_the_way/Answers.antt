use Rattle.digit_route.proofs.SharedLaws.{shared_on_the_way}
use Rattle.digit_route.proofs.laws.shared_on_the_way.Goals as goal

pub returns : goal.returns
returns c = shared_on_the_way
