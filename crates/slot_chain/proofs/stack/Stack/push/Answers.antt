use Rattle.slot_chain.proofs.Stacked.{linked_more}
use Rattle.slot_chain.proofs.stack.Stack.push.Goals as goal

pub returns : goal.returns
returns c =
    let s = c.self.inside in
    rw (← c.self.view_is, c.push.ensures) (linked_more s.linked s.named.items c.args.buf)
