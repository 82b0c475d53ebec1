use Rattle.std.proofs.Common.{ℕ, List, ◌∙◌, subst}
use Rattle.trace_audit.specs.Words.{Lacks, verb_of}
use Rattle.trace_audit.proofs.Cuts.{marked, line_cut, read_found, read_none, spelled}
use Rattle.trace_audit.proofs.grammar.request.read_request.Goals as goal

pub returns-in_err-word-clause-none : goal.returns-in_err-word-clause-none
returns-in_err-word-clause-none c = rw c.from_residual.ensures (λ r fits is. marked 32 _ _ (subst (λ (w : List ℕ). Lacks 32 w) (is ∙ spelled r) c.in_err-word.ensures.none))

pub returns-in_err-verb-clause-none : goal.returns-in_err-verb-clause-none
returns-in_err-verb-clause-none c = rw c.from_residual-in_err-verb.ensures (λ r fits is.
    c.in_err-verb.ensures.none (verb_of r) (line_cut c.args.line.now c.in_ok-word.word.now c.in_ok-word.rest.now r c.in_ok-word.ensures.found.0 c.in_ok-word.ensures.found.1 is).0)

pub returns-clause-found : goal.returns-clause-found
returns-clause-found c =
    read_found c.args.line.now c.in_ok-word.word.now c.in_ok-word.rest.now c.in_ok-verb.verb c.request_of.result c.in_ok-word.ensures.found.0 c.in_ok-verb.ensures.found c.request_of.ensures.found

pub returns-clause-none : goal.returns-clause-none
returns-clause-none c =
    read_none c.args.line.now c.in_ok-word.word.now c.in_ok-word.rest.now c.in_ok-verb.verb c.request_of.result c.in_ok-word.ensures.found.0 c.in_ok-word.ensures.found.1
    c.in_ok-verb.ensures.found c.request_of.ensures.none
