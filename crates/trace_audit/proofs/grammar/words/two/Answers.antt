use Rattle.std.proofs.Common.{ℕ, List, subst}
use Rattle.trace_audit.specs.Words.{Lacks}
use Rattle.trace_audit.proofs.Cuts.{marked, pair_cut}
use Rattle.trace_audit.proofs.grammar.words.two.Goals as goal

pub returns-in_err-front-clause-none : goal.returns-in_err-front-clause-none
returns-in_err-front-clause-none c = rw c.from_residual.ensures (λ a b fa fb is. marked c.args.mark _ _ (subst (λ (w : List ℕ). Lacks c.args.mark w) is c.in_err-front.ensures.none))

pub returns-in_err-first-clause-none : goal.returns-in_err-first-clause-none
returns-in_err-first-clause-none c = rw c.from_residual-in_err-first.ensures (λ a b fa fb is.
    c.in_err-first.ensures.none a fa (pair_cut c.args.mark c.args.bytes.now c.in_ok-front.front.now c.in_ok-front.back.now c.requires c.in_ok-front.ensures.found.0 c.in_ok-front.ensures.found.1 a b fa is).0)

pub returns-in_err-second-clause-none : goal.returns-in_err-second-clause-none
returns-in_err-second-clause-none c = rw c.from_residual-in_err-second.ensures (λ a b fa fb is.
    c.in_err-second.ensures.none b fb (pair_cut c.args.mark c.args.bytes.now c.in_ok-front.front.now c.in_ok-front.back.now c.requires c.in_ok-front.ensures.found.0 c.in_ok-front.ensures.found.1 a b fa is).1)
