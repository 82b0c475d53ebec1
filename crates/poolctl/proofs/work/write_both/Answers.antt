use Rattle.std.proofs.lemmas.Result.{err_from_is_err_and}
use Rattle.trace_audit.specs.Report.{audit_line}
use Rattle.poolctl.proofs.Begun.{begun_before, writes_behind}
use Rattle.poolctl.proofs.work.write_both.Goals as goal

pub returns-in_err-write_all : goal.returns-in_err-write_all
returns-in_err-write_all g c =
    let p = err_from_is_err_and c.from_residual.result c.from_residual.ensures.1 in
    rw p.1 (
      begun_before _ _ _ c.args.text.now (audit_line c.args.audit) c.as_bytes.ensures.value c.in_err-write_all.ensures.0,
      c.in_err-write_all.ensures.1,
    )

pub returns : goal.returns
returns g c = writes_behind _ _ _ _ _ c.args.text.now (audit_line c.args.audit) c.write_audit.result c.as_bytes.ensures.value c.in_ok-write_all.ensures.0 c.write_audit.ensures
