use Rattle.std.proofs.Common.{◌≡◌, ◌-◌, [], false}
use Rattle.std.specs.Io.KnownBytes.{Appends}
use Rattle.trace_audit.specs.Steps.{Played}
use Rattle.trace_audit.proofs.replaying.drive.drive.Given as goal

pub record Drives (played : Type 0) (reader : Type 0) (writer : Type 0) : Type 0 where
  pub lines : played
  pub reader_down : reader
  pub writer_down : writer

abbrev pub invariant-loop-number : goal.invariant-loop-number
invariant-loop-number g l = Drives
    (Played (g.R.Source.remaining l.initial.reader) (g.R.Source.remaining l.reader) l.initial.held.items l.held.items l.initial.floor l.floor (l.number - 2) []
    (Appends (g.W.Sink.contents l.initial.writer) (g.W.Sink.contents l.writer)))
    (g.R.Source.has_failed l.reader ≡ false)
    (g.W.Sink.has_failed l.writer ≡ false)
