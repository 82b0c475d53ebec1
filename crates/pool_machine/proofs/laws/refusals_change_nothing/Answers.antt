use Rattle.pool_machine.proofs.laws.refusals_change_nothing.Goals as goal

pub returns : goal.returns
returns c old new request refusal step = step.1
