use Rattle.seated_desk.specs.Settled.{AreSettled}
use Rattle.seated_desk.proofs.settled.move_once.Given as goal

abbrev pub invariant-loop-station : goal.invariant-loop-station
invariant-loop-station l = AreSettled l.initial.shelf l.shelf
