use Rattle.batch_inbox.proofs.KeepsRule.{rests, learns, next_of}
use Rattle.batch_inbox.proofs.rest.Rest.next.Goals as goal

pub pop_as-requires-clause-rule : goal.pop_as-requires-clause-rule
pop_as-requires-clause-rule g c = (rests _ _ c.self.invariant.1, learns _ _ c.self.invariant.1)

pub returns : goal.returns
returns g c = rw (← c.self.view_is) (next_of _ _ _ _ c.pop_as.ensures.rule)
