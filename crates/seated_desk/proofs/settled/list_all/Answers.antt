use Rattle.std.proofs.Common.{arith}
use Rattle.seated_desk.proofs.Accounting.{adds_next}
use Rattle.seated_desk.proofs.settled.list_all.Goals as goal

pub loop-station-preserved : goal.loop-station-preserved
loop-station-preserved c =
    adds_next c.args.shelf.now c.loop-station.station-index c.station-item.result _ _ _ (omega (arith, c.loop-station-test.true)) c.station-item.is c.loop-station.invariant c.in_ok-list.ensures
