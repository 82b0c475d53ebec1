use Rattle.pool_fabric.proofs.KeepsLedger.{bounds}
use Rattle.pool_fabric.proofs.ledger.Ledger.exclude.Goals as goal

pub len_as-requires-clause-rule : goal.len_as-requires-clause-rule
len_as-requires-clause-rule g c = bounds _ _
