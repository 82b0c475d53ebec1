use Rattle.std.proofs.Common.{◌∙◌}
use Rattle.trace_audit.specs.declared.grammar.request.Verb.TheVariants.{Adopts, Retires, Claims, Allocs, Sends, Links, Takes}
use Rattle.trace_audit.proofs.Cuts.{has_words, HasOne, HasTwo}
use Rattle.trace_audit.proofs.grammar.request.request_of.Goals as goal

pub returns-in_err-desk-in-Adopts-clause-none : goal.returns-in_err-desk-in-Adopts-clause-none
returns-in_err-desk-in-Adopts-clause-none c = rw c.from_residual.ensures (λ r fits same is.
    let w : HasTwo 32 c.args.words.now = has_words c.args.words.now Adopts r fits (same ∙ c.in-Adopts.is) is in
    c.in_err-desk-in-Adopts.ensures.none w.0 w.1 w.2 w.3 w.4)

pub returns-in_err-desk-in-Retires-clause-none : goal.returns-in_err-desk-in-Retires-clause-none
returns-in_err-desk-in-Retires-clause-none c = rw c.from_residual-in_err-desk-in-Retires.ensures (λ r fits same is.
    let w : HasOne c.args.words.now = has_words c.args.words.now Retires r fits (same ∙ c.in-Retires.is) is in
    c.in_err-desk-in-Retires.ensures.none w.0 w.1 w.2)

pub returns-in_err-desk-in-Claims-clause-none : goal.returns-in_err-desk-in-Claims-clause-none
returns-in_err-desk-in-Claims-clause-none c = rw c.from_residual-in_err-desk-in-Claims.ensures (λ r fits same is.
    let w : HasTwo 32 c.args.words.now = has_words c.args.words.now Claims r fits (same ∙ c.in-Claims.is) is in
    c.in_err-desk-in-Claims.ensures.none w.0 w.1 w.2 w.3 w.4)

pub returns-in_err-desk-in-Allocs-clause-none : goal.returns-in_err-desk-in-Allocs-clause-none
returns-in_err-desk-in-Allocs-clause-none c = rw c.from_residual-in_err-desk-in-Allocs.ensures (λ r fits same is.
    let w : HasTwo 32 c.args.words.now = has_words c.args.words.now Allocs r fits (same ∙ c.in-Allocs.is) is in
    c.in_err-desk-in-Allocs.ensures.none w.0 w.1 w.2 w.3 w.4)

pub returns-in_err-desk-in-Sends-clause-none : goal.returns-in_err-desk-in-Sends-clause-none
returns-in_err-desk-in-Sends-clause-none c = rw c.from_residual-in_err-desk-in-Sends.ensures (λ r fits same is.
    let w : HasTwo 32 c.args.words.now = has_words c.args.words.now Sends r fits (same ∙ c.in-Sends.is) is in
    c.in_err-desk-in-Sends.ensures.none w.0 w.1 w.2 w.3 w.4)

pub returns-in_err-batch-in-Links-clause-none : goal.returns-in_err-batch-in-Links-clause-none
returns-in_err-batch-in-Links-clause-none c = rw c.from_residual-in_err-batch-in-Links.ensures (λ r fits same is.
    let w : HasOne c.args.words.now = has_words c.args.words.now Links r fits (same ∙ c.in-Links.is) is in
    c.in_err-batch-in-Links.ensures.none w.0 w.1 w.2)

pub returns-in_err-desk-in-Takes-clause-none : goal.returns-in_err-desk-in-Takes-clause-none
returns-in_err-desk-in-Takes-clause-none c = rw c.from_residual-in_err-desk-in-Takes.ensures (λ r fits same is.
    let w : HasOne c.args.words.now = has_words c.args.words.now Takes r fits (same ∙ c.in-Takes.is) is in
    c.in_err-desk-in-Takes.ensures.none w.0 w.1 w.2)
