use Rattle.std.proofs.Common.{arith}
use Rattle.pool_fabric.specs.Audited.{held_slots}
use Rattle.pool_fabric.proofs.Accounting.{adds_next}
use Rattle.pool_fabric.proofs.listing.list_held.Goals as goal

pub loop-desk-preserved : goal.loop-desk-preserved
loop-desk-preserved c =
    adds_next held_slots c.args.desks.now c.loop-desk.desk-index c.desk-item.result _ _ _ (omega (arith, c.loop-desk-test.true)) c.desk-item.is c.loop-desk.invariant c.in_ok-list_slots.ensures.ok
