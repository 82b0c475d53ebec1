use Rattle.std.proofs.Common.{Some, sym, subst}
use Rattle.std.proofs.lemmas.Result.{err_from_is_err_and}
use Rattle.trace_audit.specs.Steps.{IsFound}
use Rattle.trace_audit.proofs.OnceOnFloors.{is_verdict}
use Rattle.trace_audit.proofs.replaying.ending.tell_audit.Goals as goal

pub returns : goal.returns
returns g c = (
  subst (λ b. IsFound b c.args.floor.now (Some c.audit_floor-answer.result)) (sym c.if-not-audits.false)
      (is_verdict c.args.floor.now c.audit_floor-answer.result c.audit_floor-answer.ensures.ok c.audit_floor-answer.ensures.err),
  c.in_ok-write_audit.ensures.0,
  c.in_ok-write_audit.ensures.1,
)

pub returns-in_err-write_audit : goal.returns-in_err-write_audit
returns-in_err-write_audit g c =
    let p = err_from_is_err_and c.from_residual.result c.from_residual.ensures.1 in
    rw p.1 (
      (
        Some c.audit_floor-answer.result,
        subst (λ b. IsFound b c.args.floor.now (Some c.audit_floor-answer.result)) (sym c.if-not-audits.false)
            (is_verdict c.args.floor.now c.audit_floor-answer.result c.audit_floor-answer.ensures.ok c.audit_floor-answer.ensures.err),
        c.in_err-write_audit.ensures.0,
      ),
      c.in_err-write_audit.ensures.1,
    )
