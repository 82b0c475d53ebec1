use Rattle.std.proofs.Common.{take}
use Rattle.slot_audit.specs.Tallies.{IsTally}
use Rattle.slot_audit.proofs.tallies.tally.Given as goal

abbrev pub invariant-loop-slot : goal.invariant-loop-slot
invariant-loop-slot l = IsTally l.drawn (take l.slot-index l.found) l.table
