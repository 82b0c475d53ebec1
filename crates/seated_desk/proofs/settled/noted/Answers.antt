use Rattle.std.proofs.Common.{subst, arith, take_all}
use Rattle.seated_desk.specs.Claims.{AreNoted}
use Rattle.seated_desk.specs.Settled.{claimed}
use Rattle.seated_desk.proofs.Claimed.{notes_next}
use Rattle.seated_desk.proofs.settled.noted.Goals as goal

pub loop-station-preserved : goal.loop-station-preserved
loop-station-preserved c =
    notes_next c.args.shelf.now c.loop-station.station-index c.station-item.result _ _ (omega (arith, c.loop-station-test.true)) c.station-item.is c.loop-station.invariant c.note_all.ensures c.station-item.result.noted

pub returns : goal.returns
returns c = subst (λ xs. AreNoted c.loop-station.drawn (claimed xs)) (take_all c.loop-station.station-index c.args.shelf.now c.loop-station-test.false) c.loop-station.invariant
