use Rattle.std.proofs.Common.{◌≡◌, ℕ, ◌-◌, List, ◌++◌, length, false}
use Rattle.std.specs.Io.KnownBytes.{Consumes}
use Rattle.trace_audit.proofs.lines.next_line.Given as goal

abbrev pub invariant-reading : goal.invariant-reading
invariant-reading g l = ((given : List ℕ) × Consumes (g.R.Source.remaining l.initial.reader) (g.R.Source.remaining l.reader) given × (l.held.items ≡ l.initial.held.items ++ given)) × (g.R.Source.has_failed l.reader ≡ false)

abbrev pub decreases-reading : goal.decreases-reading
decreases-reading g l = 65 - length l.held.items
