use Rattle.std.proofs.Common.{◌<◌, ◌+◌, ◌*◌}
use Rattle.region_cut.specs.declared.slot.Slot.{Slot}
use Rattle.slot_audit.specs.Tallies.{HasCount}
use Rattle.slot_audit.proofs.tallies.least_with.Given as goal

-- no slot of a lesser place has the count
abbrev pub invariant-loop-at : goal.invariant-loop-at
invariant-loop-at l = (s : Slot) → s.chunk * 256 + s.index < l.at → HasCount l.drawn l.table l.count s → ⊥
