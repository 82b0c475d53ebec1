use Rattle.std.proofs.Common.{◌≡◌, ℕ, List, subst, sym, ◌∙◌, true, false}
use Rattle.trace_audit.specs.Words.{Lacks, header_words}
use Rattle.trace_audit.specs.Grammar.{profile_text}
use Rattle.trace_audit.proofs.Cuts.{marked, header_line_cut, header_words_fit, same_header, same_profile, in_range_again, titled}
use Rattle.trace_audit.proofs.grammar.header.read_header.Goals as goal

pub returns-in_err-word-clause-none : goal.returns-in_err-word-clause-none
returns-in_err-word-clause-none c = rw c.from_residual.ensures (λ h fits is. marked 32 (profile_text h.profile) (header_words h) (subst (λ (w : List ℕ). Lacks 32 w) (is ∙ titled h) c.in_err-word.ensures.none))

pub returns-in_err-profile-clause-none : goal.returns-in_err-profile-clause-none
returns-in_err-profile-clause-none c = rw c.from_residual-in_err-profile.ensures (λ h fits is.
    c.in_err-profile.ensures.none h.profile (header_line_cut c.args.line.now c.in_ok-word.word.now c.in_ok-word.rest.now h c.in_ok-word.ensures.found.0 c.in_ok-word.ensures.found.1 is).0)

pub returns-in_err-header-clause-none : goal.returns-in_err-header-clause-none
returns-in_err-header-clause-none c = rw c.from_residual-in_err-header.ensures (λ h fits is.
    c.in_err-header.ensures.none h (header_words_fit h fits) (header_line_cut c.args.line.now c.in_ok-word.word.now c.in_ok-word.rest.now h c.in_ok-word.ensures.found.0 c.in_ok-word.ensures.found.1 is).1)

pub returns-then-not-is_in_range-clause-none : goal.returns-then-not-is_in_range-clause-none
returns-then-not-is_in_range-clause-none c h fits is =
    let w = header_line_cut c.args.line.now c.in_ok-word.word.now c.in_ok-word.rest.now h c.in_ok-word.ensures.found.0 c.in_ok-word.ensures.found.1 is in
    let kind = same_profile c.in_ok-profile.profile h.profile (sym c.in_ok-profile.ensures.found ∙ w.0) in
    let same = same_header c.in_ok-header.header h c.in_ok-header.ensures.found.0 (header_words_fit h fits) (sym c.in_ok-header.ensures.found.2 ∙ w.1) in
    let fine = in_range_again c.in_ok-header.header h (c.in_ok-header.ensures.found.1 ∙ kind) same fits in
    let q : false ≡ true = c.if-not-is_in_range.ensures.1 fine in cc
