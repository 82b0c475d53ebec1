use Rattle.pool_machine.proofs.Numbers.{run_numbers}
use Rattle.pool_machine.proofs.laws.runs_keep_numbers.Goals as goal

pub returns : goal.returns
returns c = run_numbers
