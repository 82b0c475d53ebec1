use Rattle.std.proofs.Common.{[], arith, length-append}
use Rattle.std.proofs.KnownBytes.{Consumes-nil}
use Rattle.std.proofs.lemmas.Grind.{common_steps}
use Rattle.std.proofs.lemmas.Result.{err_from_is_err_and}
use Rattle.trace_audit.proofs.lines.is_over.Goals as goal

pub returns-then-not-is_empty-clause-more : goal.returns-then-not-is_empty-clause-more
returns-then-not-is_empty-clause-more g c = λ e. ([], Consumes-nil _, grind (arith, common_steps))

pub returns-clause-more : goal.returns-clause-more
returns-clause-more g c = λ e.
    let h = c.in_ok-more.ensures.more (grind (arith, common_steps)) in
    (h.0, h.2, omega (arith, length-append c.args.held.now.items h.0, h.1))

pub returns-clause-over : goal.returns-clause-over
returns-clause-over g c = λ e.
    let h = c.in_ok-more.ensures.end (grind (arith, common_steps)) in
    (h.0, h.1, grind (arith, common_steps))

pub returns-in_err-more-clause-err : goal.returns-in_err-more-clause-err
returns-in_err-more-clause-err g c =
    let p = err_from_is_err_and c.from_residual.result c.from_residual.ensures.1 in
    rw p.1 (c.in_err-more.ensures.err.0, c.in_err-more.ensures.err.1, grind (arith, common_steps))
