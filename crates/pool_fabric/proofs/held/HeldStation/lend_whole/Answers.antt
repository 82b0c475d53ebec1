use Rattle.pool_fabric.proofs.Steps.{lends_whole_keeps}
use Rattle.pool_fabric.proofs.held.HeldStation.lend_whole.Goals as goal

pub invariant_of-self-2 : goal.invariant_of-self-2
invariant_of-self-2 g c =
    let lent = c.if-not-take_whole.ensures in
    lends_whole_keeps _ _ c.args.class c.take_whole.new.self.items _ _ _ c.self.invariant (rw (c.deref_mut-2.ensures.value, c.deref_mut.ensures.value) at lent.0) lent.2
    (rw c.buffers.ensures at c.and_all-self-inside.ensures)
