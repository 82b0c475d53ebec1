use Rattle.batch_inbox.proofs.KeepsRule.{opens}
use Rattle.batch_inbox.proofs.opening.opened.Goals as goal

pub another-requires-clause-rule : goal.another-requires-clause-rule
another-requires-clause-rule g c = opens _ _ g.J.Placing.place c.requires.pass.1
