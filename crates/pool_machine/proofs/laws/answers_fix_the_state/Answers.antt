use Rattle.pool_machine.proofs.Numbers.{run_fixes}
use Rattle.pool_machine.proofs.laws.answers_fix_the_state.Goals as goal

pub returns : goal.returns
returns c = run_fixes
