use Rattle.std.proofs.Common.{◌∙◌}
use Rattle.std.proofs.lemmas.Result.{err_from_is_err_and}
use Rattle.trace_audit.specs.FloorCounts.{told}
use Rattle.trace_audit.proofs.Closings.{bad_closed, bad_broken}
use Rattle.trace_audit.proofs.replaying.ending.close_behind.Goals as goal

pub returns-in_ok-write_all-in-BadLine : goal.returns-in_ok-write_all-in-BadLine
returns-in_ok-write_all-in-BadLine g c = bad_closed _ _ _ _ (told c.args.floor.now) c.args.end c.in-BadLine.number _ c.close-in-BadLine.result c.in-BadLine.is (c.as_slice.ensures.value ∙ c.line_of_bad-line.ensures) c.in_ok-write_all-in-BadLine.ensures.0 c.close-in-BadLine.ensures

pub returns-in_err-write_all-in-BadLine : goal.returns-in_err-write_all-in-BadLine
returns-in_err-write_all-in-BadLine g c =
    let p = err_from_is_err_and c.from_residual.result c.from_residual.ensures.1 in
    rw p.1 (
      bad_broken _ _ (told c.args.floor.now) c.args.end c.in-BadLine.number _ c.in-BadLine.is (c.as_slice.ensures.value ∙ c.line_of_bad-line.ensures) c.in_err-write_all-in-BadLine.ensures.0,
      c.in_err-write_all-in-BadLine.ensures.1,
    )
