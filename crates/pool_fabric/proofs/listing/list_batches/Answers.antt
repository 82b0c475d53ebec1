use Rattle.std.proofs.Common.{arith}
use Rattle.pool_fabric.specs.Audited.{batch_slots}
use Rattle.pool_fabric.proofs.Accounting.{adds_next}
use Rattle.pool_fabric.proofs.listing.list_batches.Goals as goal

pub loop-batch-preserved : goal.loop-batch-preserved
loop-batch-preserved c =
    adds_next batch_slots c.args.batches.now c.loop-batch.batch-index c.batch-item.result _ _ _ (omega (arith, c.loop-batch-test.true)) c.batch-item.is c.loop-batch.invariant c.in_ok-list_slots.ensures.ok
