use Rattle.std.proofs.Common.{◌≡◌, false}
use Rattle.std.specs.Io.KnownBytes.{Appends}
use Rattle.poolctl.specs.Classes.{class_lines}
use Rattle.poolctl.proofs.classes.write_classes.Given as goal

abbrev pub invariant-loop-number : goal.invariant-loop-number
invariant-loop-number g l = Appends (g.W.Sink.contents l.initial.sink) (g.W.Sink.contents l.sink) (class_lines l.number) × (g.W.Sink.has_failed l.sink ≡ false)
