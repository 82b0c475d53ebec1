use Rattle.std.proofs.Common.{ℕ, List, subst}
use Rattle.trace_audit.specs.Words.{Lacks}
use Rattle.trace_audit.proofs.Cuts.{marked, header_cut}
use Rattle.trace_audit.proofs.grammar.header.header_numbers.Goals as goal

pub returns-in_err-front-clause-none : goal.returns-in_err-front-clause-none
returns-in_err-front-clause-none c = rw c.from_residual.ensures (λ h fits is. marked 32 _ _ (subst (λ (w : List ℕ). Lacks 32 w) is c.in_err-front.ensures.none))

pub returns-in_err-desks-clause-none : goal.returns-in_err-desks-clause-none
returns-in_err-desks-clause-none c = rw c.from_residual-in_err-desks.ensures (λ h fits is.
    c.in_err-desks.ensures.none h.desks fits.0 (header_cut _ c.in_ok-front.front.now c.in_ok-front.back.now h c.in_ok-front.ensures.found.0 c.in_ok-front.ensures.found.1 fits is).0)

pub returns-in_err-chunks-clause-none : goal.returns-in_err-chunks-clause-none
returns-in_err-chunks-clause-none c = rw c.from_residual-in_err-chunks.ensures (λ h fits is.
    c.in_err-chunks.ensures.none h.chunks h.width fits.1 fits.2 (header_cut _ c.in_ok-front.front.now c.in_ok-front.back.now h c.in_ok-front.ensures.found.0 c.in_ok-front.ensures.found.1 fits is).1)
