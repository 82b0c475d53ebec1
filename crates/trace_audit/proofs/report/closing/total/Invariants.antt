use Rattle.std.proofs.Common.{◌≡◌, take}
use Rattle.trace_audit.specs.FloorCounts.{told}
use Rattle.trace_audit.specs.Report.{total}
use Rattle.trace_audit.proofs.report.closing.total.Given as goal

abbrev pub invariant-loop-desk : goal.invariant-loop-desk
invariant-loop-desk l = l.sum ≡ total (take l.desk (told l.floor).desks)
