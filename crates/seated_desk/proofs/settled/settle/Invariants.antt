use Rattle.seated_desk.specs.Settled.{AreSettled}
use Rattle.seated_desk.proofs.settled.settle.Given as goal

abbrev pub invariant-loop : goal.invariant-loop
invariant-loop l = AreSettled l.initial.shelf l.shelf
