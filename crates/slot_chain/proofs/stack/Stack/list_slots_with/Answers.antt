use Rattle.slot_chain.proofs.Stacked.{listed}
use Rattle.slot_chain.proofs.stack.Stack.list_slots_with.Goals as goal

pub returns-clause-ok : goal.returns-clause-ok
returns-clause-ok c =
    let s = c.self.inside in
    rw (← c.self.view_is)
    (listed c.args.parcels.now s.linked s.named.items c.walk_behind-walk.result c.add_slots.result _ _
    (rw (c.as_slice.ensures.value, c.as_slice-2.ensures.value) at c.walk_behind-walk.ensures) c.add_slots.ensures.ok)
