use Rattle.std.proofs.Common.{rules}
use Rattle.slot_audit.proofs.Undrawn.{undrawn_fits}
use Rattle.slot_audit.proofs.drawn.Drawn.new.Goals as goal

pub invariant_of-result : goal.invariant_of-result
invariant_of-result c = rw c.in_ok-new.ensures.ok (undrawn_fits _ (search rules) c.undrawn.ensures.none)
