use Rattle.seated_desk.proofs.Shelved.{settled_next}
use Rattle.seated_desk.proofs.settled.move_once.Goals as goal

pub loop-station-preserved : goal.loop-station-preserved
loop-station-preserved c =
    settled_next c.args.shelf.now c.loop-station.shelf c.loop-station.station-index c.station-item.result c.take.new.self c.post.new.self c.take.ensures.keeps c.post.ensures.keeps c.loop-station.invariant
