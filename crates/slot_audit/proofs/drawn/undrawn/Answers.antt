use Rattle.slot_audit.proofs.Undrawn.{undrawn_at}
use Rattle.slot_audit.proofs.drawn.undrawn.Goals as goal

pub returns-clause-none : goal.returns-clause-none
returns-clause-none g c k = undrawn_at _ k
