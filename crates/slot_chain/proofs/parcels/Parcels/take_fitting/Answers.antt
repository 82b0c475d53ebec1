use Rattle.slot_chain.proofs.Filled.{taken_fitting}
use Rattle.slot_chain.proofs.parcels.Parcels.take_fitting.Goals as goal

pub returns : goal.returns
returns c = rw (← c.self.view_is) (taken_fitting _ _ c.take_last_fitting.result _ _ c.take_last_fitting.ensures c.self.invariant)
