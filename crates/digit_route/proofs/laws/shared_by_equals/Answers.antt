use Rattle.digit_route.proofs.SharedLaws.{shared_by_equals}
use Rattle.digit_route.proofs.laws.shared_by_equals.Goals as goal

pub returns : goal.returns
returns c = shared_by_equals
