use Rattle.std.proofs.Common.{take}
use Rattle.std.specs.Prelude.{MatchOption}
use Rattle.slot_audit.specs.Audit.{IsStranger, IsLeast, IsNowhere}
use Rattle.slot_audit.proofs.strangers.least_stranger.Given as goal

abbrev pub invariant-loop-slot : goal.invariant-loop-slot
invariant-loop-slot l = MatchOption l.least (IsNowhere (IsStranger l.drawn (take l.slot-index l.found))) (λ s. IsLeast (IsStranger l.drawn (take l.slot-index l.found)) s)
