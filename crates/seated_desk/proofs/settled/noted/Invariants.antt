use Rattle.std.proofs.Common.{take}
use Rattle.seated_desk.specs.Claims.{AreNoted}
use Rattle.seated_desk.specs.Settled.{claimed}
use Rattle.seated_desk.proofs.settled.noted.Given as goal

abbrev pub invariant-loop-station : goal.invariant-loop-station
invariant-loop-station l = AreNoted l.drawn (claimed (take l.station-index l.shelf))
