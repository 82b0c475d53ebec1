use Rattle.link_inbox.proofs.KeepsOrder.{order_kept}
use Rattle.link_inbox.proofs.laws.keeps_order.Goals as goal

pub returns : goal.returns
returns c place s r = order_kept place s r
