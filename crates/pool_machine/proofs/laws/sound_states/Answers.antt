use Rattle.pool_machine.proofs.Openings.{opening_sound}
use Rattle.pool_machine.proofs.Keeps.{sound_run}
use Rattle.pool_machine.proofs.Reached.{reached_sound}
use Rattle.pool_machine.proofs.Orderly.{sound_orderly}
use Rattle.pool_machine.proofs.Enumerate.{slots_once}
use Rattle.pool_machine.proofs.laws.sound_states.Goals as goal

pub returns-clause-opening : goal.returns-clause-opening
returns-clause-opening c = opening_sound

pub returns-clause-runs : goal.returns-clause-runs
returns-clause-runs c = sound_run

pub returns-clause-reached : goal.returns-clause-reached
returns-clause-reached c = reached_sound

pub returns-clause-orderly : goal.returns-clause-orderly
returns-clause-orderly c = sound_orderly

pub returns-clause-listed : goal.returns-clause-listed
returns-clause-listed c = slots_once
