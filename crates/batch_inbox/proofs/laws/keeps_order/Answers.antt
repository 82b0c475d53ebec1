use Rattle.batch_inbox.proofs.KeepsRule as moves
use Rattle.batch_inbox.proofs.laws.keeps_order.Goals as goal

pub returns : goal.returns
returns c = moves.keeps_order
