use Rattle.std.proofs.Common.{◌≡◌, false, take}
use Rattle.std.specs.Io.KnownBytes.{Appends}
use Rattle.trace_audit.specs.FloorCounts.{told}
use Rattle.trace_audit.specs.FloorCounts.{desk_lines}
use Rattle.trace_audit.proofs.report.closing.close.Given as goal

abbrev pub invariant-loop-desk : goal.invariant-loop-desk
invariant-loop-desk g l = Appends (g.W.Sink.contents l.initial.writer) (g.W.Sink.contents l.writer) (desk_lines 0 (take l.desk (told l.floor).desks)) × (g.W.Sink.has_failed l.writer ≡ false)
