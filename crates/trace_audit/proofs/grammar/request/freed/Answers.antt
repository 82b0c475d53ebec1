use Rattle.std.proofs.Common.{ℕ, List, subst}
use Rattle.trace_audit.specs.Words.{Lacks}
use Rattle.trace_audit.proofs.Cuts.{marked, free_cut}
use Rattle.trace_audit.proofs.grammar.request.freed.Goals as goal

pub returns-in_err-front-clause-none : goal.returns-in_err-front-clause-none
returns-in_err-front-clause-none c = rw c.from_residual.ensures (λ a s fits is. marked 32 _ _ (subst (λ (w : List ℕ). Lacks 32 w) is c.in_err-front.ensures.none))

pub returns-in_err-desk-clause-none : goal.returns-in_err-desk-clause-none
returns-in_err-desk-clause-none c = rw c.from_residual-in_err-desk.ensures (λ a s fits is.
    c.in_err-desk.ensures.none a fits.0 (free_cut c.args.words.now c.in_ok-front.front.now c.in_ok-front.back.now c.in_ok-front.ensures.found.0 c.in_ok-front.ensures.found.1 a s fits is).0)

pub returns-in_err-slot-clause-none : goal.returns-in_err-slot-clause-none
returns-in_err-slot-clause-none c = rw c.from_residual-in_err-slot.ensures (λ a s fits is.
    c.in_err-slot.ensures.none s.0 s.1 fits.1 fits.2 (free_cut c.args.words.now c.in_ok-front.front.now c.in_ok-front.back.now c.in_ok-front.ensures.found.0 c.in_ok-front.ensures.found.1 a s fits is).1)
