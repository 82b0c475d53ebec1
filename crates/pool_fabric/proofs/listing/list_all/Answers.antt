use Rattle.pool_fabric.proofs.Accounting.{adds_more}
use Rattle.pool_fabric.proofs.listing.list_all.Goals as goal

pub returns : goal.returns
returns c = adds_more _ _ _ _ _ (adds_more _ _ _ _ _ c.in_ok-list_idle.ensures c.in_ok-list_held.ensures) c.in_ok-list_batches.ensures
