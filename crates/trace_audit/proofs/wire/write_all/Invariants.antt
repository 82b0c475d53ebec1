use Rattle.std.proofs.Common.{length, ◌-◌, ◌≡◌, ◌≤◌, false, take}
use Rattle.std.specs.Io.KnownBytes.{Appends}
use Rattle.trace_audit.proofs.wire.write_all.Given as goal

pub record Wrote (done : Type 0) (bound : Type 0) (up : Type 0) : Type 0 where
  pub bytes : done
  pub within : bound
  pub down : up

abbrev pub invariant-loop-at : goal.invariant-loop-at
invariant-loop-at g l = Wrote (Appends (g.W.Sink.contents l.initial.writer) (g.W.Sink.contents l.writer) (take l.at l.text))
    (l.at ≤ length l.text) (g.W.Sink.has_failed l.writer ≡ false)

abbrev pub decreases-loop-at : goal.decreases-loop-at
decreases-loop-at g l = length l.text - l.at
