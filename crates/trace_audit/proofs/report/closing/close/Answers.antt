use Rattle.std.proofs.Common.{◌∙◌}
use Rattle.std.proofs.lemmas.Result.{err_from_is_err_and}
use Rattle.trace_audit.proofs.Closings.{told_more, told_cut, told_closed}
use Rattle.trace_audit.proofs.report.closing.close.Goals as goal

pub returns-in_err-write_all : goal.returns-in_err-write_all
returns-in_err-write_all g c =
    let p = err_from_is_err_and c.from_residual.result c.from_residual.ensures.1 in
    rw p.1 (
      told_cut _ _ _ c.args.floor.now c.loop-desk.desk c.desk_count-desks.result _ _ c.desk_count-desks.ensures c.loop-desk-test.true c.counts_of.ensures
          (c.as_slice.ensures.value ∙ c.line_of_desk-line.ensures) c.loop-desk.invariant.0 c.in_err-write_all.ensures.0,
      c.in_err-write_all.ensures.1,
    )

pub loop-desk-preserved : goal.loop-desk-preserved
loop-desk-preserved g c = (
  told_more _ _ _ c.args.floor.now c.loop-desk.desk c.desk_count-desks.result _ _ c.desk_count-desks.ensures c.loop-desk-test.true c.counts_of.ensures
      (c.as_slice.ensures.value ∙ c.line_of_desk-line.ensures) c.loop-desk.invariant.0 c.in_ok-write_all.ensures.0,
  c.in_ok-write_all.ensures.1,
)

pub returns : goal.returns
returns g c = told_closed _ _ _ _ c.args.floor.now c.loop-desk.desk c.desk_count-desks.result _ c.write_all-2.result c.desk_count-desks.ensures c.loop-desk-test.false
    (c.as_slice-2.ensures.value ∙ c.line_of_end-line.ensures) c.loop-desk.invariant.0 c.write_all-2.ensures
