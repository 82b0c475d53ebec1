use Rattle.std.proofs.Common.{◌∙◌}
use Rattle.trace_audit.proofs.Closings.{told_total, told_all}
use Rattle.trace_audit.proofs.report.closing.total.Goals as goal

pub loop-desk-preserved : goal.loop-desk-preserved
loop-desk-preserved c = c.plus-sum.ensures ∙ told_total c.args.floor.now c.loop-desk.desk c.desk_count-desks.result _ _ c.desk_count-desks.ensures c.loop-desk-test.true c.loop-desk.invariant c.counts_of.ensures

pub returns : goal.returns
returns c = told_all c.args.floor.now c.loop-desk.desk c.desk_count-desks.result _ c.desk_count-desks.ensures c.loop-desk-test.false c.loop-desk.invariant
