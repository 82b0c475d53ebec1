use Rattle.slot_chain.proofs.Filled.{taken_last}
use Rattle.slot_chain.proofs.parcels.Parcels.take.Goals as goal

pub returns : goal.returns
returns c = rw (← c.self.view_is) (taken_last _ _ c.take_last.result c.take_last.ensures c.self.invariant)
