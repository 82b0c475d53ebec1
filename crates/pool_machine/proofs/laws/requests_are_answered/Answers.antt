use Rattle.pool_machine.proofs.Answered.{answered}
use Rattle.pool_machine.proofs.laws.requests_are_answered.Goals as goal

pub returns : goal.returns
returns c = answered
