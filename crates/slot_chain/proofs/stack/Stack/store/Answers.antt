use Rattle.slot_chain.proofs.Stacked.{linked_more}
use Rattle.slot_chain.proofs.stack.Stack.store.Goals as goal

pub returns-else-len-capacity : goal.returns-else-len-capacity
returns-else-len-capacity c =
    let s = c.self.inside in
    rw (← c.self.view_is, c.link.ensures) (linked_more s.linked s.named.items c.args.buf)
