use Rattle.std.proofs.Common.{ℕ, List, ◌∙◌, refl, sym, subst, take}
use Rattle.std.specs.Io.KnownBytes.{Appends}
use Rattle.trace_audit.proofs.FirstLines.{bad_text, bad_front, line_taken, longer, not_empty, some_held, taken_line}
use Rattle.trace_audit.proofs.Fronts.{begins_same, spelling_lacks, spelling_short}
use Rattle.trace_audit.specs.Grammar.{IsRequest, spelling}
use Rattle.trace_audit.proofs.replaying.turn.one_line.Goals as goal

pub returns-in-Err-write_all-clause-turned : goal.returns-in-Err-write_all-clause-turned
returns-in-Err-write_all-clause-turned g c =
    let p = rw c.in-Ok-Text.field-0-is at c.in-Ok-Text.ensures.ok in (
      p.0,
      p.1,
      (
        c.in-Some.request,
        c.answer_of-answer.result,
        c.in-Some.ensures.found.0,
        line_taken _ (take c.in-Ok-Text.count c.next_line.new.held.items) c.front.result.now _ (spelling c.in-Some.request) (taken_line _ _ _ c.in-Ok-Text.count p.2.0 p.2.1.0 c.pass.ensures) c.front.ensures c.in-Some.ensures.found.1,
        c.answer_of-answer.ensures,
        begins_same _ _ _ _ (c.as_slice.ensures.value ∙ c.set_answer.ensures) c.in-Err-write_all.ensures.0,
      ),
    )

pub returns-in-None-clause-turned : goal.returns-in-None-clause-turned
returns-in-None-clause-turned g c =
    let p = rw c.in-Ok-Text.field-0-is at c.in-Ok-Text.ensures.ok in (
      p.0,
      p.1,
      (
        λ e. not_empty _ (rw (p.2.0 ∙ p.2.1.0) (longer _ _)) e,
        bad_text IsRequest spelling spelling_lacks spelling_short _ (take c.in-Ok-Text.count c.next_line.new.held.items) _ _ (p.2.0 ∙ p.2.1.0) p.2.1.1 (λ r fits is. c.in-None.ensures.none r fits (c.front.ensures ∙ is)),
        refl,
        refl,
      ),
    )

pub returns-in-Ok-Bad-clause-turned : goal.returns-in-Ok-Bad-clause-turned
returns-in-Ok-Bad-clause-turned g c =
    let p = rw c.in-Ok-Bad.field-0-is at c.in-Ok-Bad.ensures.ok in
    (p.0, p.1, (some_held _ _ _ p.2.0 p.2.2, bad_front IsRequest spelling spelling_lacks spelling_short _ _ _ p.2.0 p.2.1 p.2.2, refl, refl))

pub returns-in-Ok-clause-turned : goal.returns-in-Ok-clause-turned
returns-in-Ok-clause-turned g c =
    let p = rw c.in-Ok-Text.field-0-is at c.in-Ok-Text.ensures.ok in (
      p.0,
      p.1,
      (
        c.in-Some.request,
        c.answer_of-answer.result,
        c.in-Some.ensures.found.0,
        line_taken _ (take c.in-Ok-Text.count c.next_line.new.held.items) c.front.result.now _ (spelling c.in-Some.request) (taken_line _ _ _ c.in-Ok-Text.count p.2.0 p.2.1.0 c.pass.ensures) c.front.ensures c.in-Some.ensures.found.1,
        c.answer_of-answer.ensures,
        subst (λ (w : List ℕ). Appends (g.W.Sink.contents c.args.writer.now) (g.W.Sink.contents c.write_all.new.writer) w)
            (c.as_slice.ensures.value ∙ c.set_answer.ensures) c.in-Ok.ensures.0,
      ),
    )

pub returns-in-Ok-Over-clause-turned : goal.returns-in-Ok-Over-clause-turned
returns-in-Ok-Over-clause-turned g c =
    let p = rw c.in-Ok-Over.field-0-is at c.in-Ok-Over.ensures.ok in
    (p.0, p.1, (p.2.0, p.2.1, p.2.2, refl, refl))

pub returns-in-Err-clause-turned : goal.returns-in-Err-clause-turned
returns-in-Err-clause-turned g c =
    let p = c.in-Err.ensures.err in
    (p.0, p.1, (sym p.2, p.3, refl, refl))
