use Rattle.pool_fabric.proofs.Steps.{takes_keeps}
use Rattle.pool_fabric.proofs.held.HeldStation.take.Goals as goal

pub invariant_of-self : goal.invariant_of-self
invariant_of-self g c = takes_keeps _ _ c.take_some.result _ _ c.self.invariant (rw (c.deref_mut-2.ensures.value, c.deref_mut.ensures.value) at c.take_some.ensures.takes)
