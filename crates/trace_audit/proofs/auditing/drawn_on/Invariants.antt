use Rattle.std.proofs.Common.{◌≡◌, ℕ, ◌<◌, ◌≤◌, None}
use Rattle.event_floor.specs.Chunks.{class_drawn}
use Rattle.slot_audit.specs.Audit.{class_noted}
use Rattle.trace_audit.proofs.auditing.drawn_on.Given as goal

-- the chunks before this one are noted
abbrev pub invariant-loop-chunk : goal.invariant-loop-chunk
invariant-loop-chunk l = ((k : ℕ) → k < l.chunk → class_noted l.drawn k ≡ class_drawn l.floor.drawn k) × ((k : ℕ) → l.chunk ≤ k → class_noted l.drawn k ≡ None)
