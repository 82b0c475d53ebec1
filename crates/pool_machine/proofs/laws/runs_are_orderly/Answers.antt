use Rattle.pool_machine.proofs.Orderly.{run_orderly}
use Rattle.pool_machine.proofs.laws.runs_are_orderly.Goals as goal

pub returns : goal.returns
returns c = run_orderly
