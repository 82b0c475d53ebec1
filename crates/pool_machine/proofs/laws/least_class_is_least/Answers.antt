use Rattle.pool_machine.proofs.ClassLaws.{least_class_least}
use Rattle.pool_machine.proofs.laws.least_class_is_least.Goals as goal

pub returns : goal.returns
returns c = least_class_least
