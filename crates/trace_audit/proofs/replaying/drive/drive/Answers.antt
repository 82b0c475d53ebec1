use Rattle.std.proofs.Common.{rules, arith, inl, inr, [], refl, ◌∙◌, append-nil}
use Rattle.std.specs.Io.KnownBytes.{IsAtEnd}
use Rattle.std.proofs.KnownBytes.{Appends-trans}
use Rattle.std.proofs.lemmas.Result.{err_from_is_err_and}
use Rattle.trace_audit.proofs.FirstLines.{not_empty}
use Rattle.trace_audit.proofs.Plays.{played_start, played_more, driven_end, stopped_by, stopped_last}
use Rattle.trace_audit.specs.Report.{answer_line}
use Rattle.trace_audit.specs.declared.replaying.ending.End.TheVariants.{Whole, BadLine}
use Rattle.trace_audit.proofs.replaying.drive.drive.Goals as goal

pub loop-number-init : goal.loop-number-init
loop-number-init g c = record { lines = played_start _ _ _ _; reader_down = c.requires.reader_down; writer_down = c.requires.writer_down }

pub loop-number-preserved : goal.loop-number-preserved
loop-number-preserved g c =
    let t = rw c.in-Answered.is at c.in_ok-one_line.ensures.turned in
    record {
      lines = played_more _ _ _ _ _ _ _ _ _ _ _ _ _ c.loop-number.invariant.lines (omega arith) t.0 t.2.0 t.2.1 t.1 t.2.3 t.2.2 t.2.4 (λ text h. Appends-trans _ _ _ text (answer_line t.2.1) h t.2.5);
      reader_down = c.in_ok-one_line.ensures.flags.0;
      writer_down = c.in_ok-one_line.ensures.flags.1;
    }

pub returns-in-Over-clause-driven : goal.returns-in-Over-clause-driven
returns-in-Over-clause-driven g c =
    let t = rw c.in-Over.is at c.in_ok-one_line.ensures.turned in
    driven_end _ _ _ _ _ _ _ _ _ _ _ _ _ Whole c.loop-number.invariant.lines t.0 t.1 refl t.2.3 t.2.4 (omega arith, t.2.0, t.2.2)

pub returns-in-Bad-clause-driven : goal.returns-in-Bad-clause-driven
returns-in-Bad-clause-driven g c =
    let t = rw c.in-Bad.is at c.in_ok-one_line.ensures.turned in
    driven_end _ _ _ _ _ _ _ _ _ _ _ _ _ (BadLine c.loop-number.number) c.loop-number.invariant.lines t.0 t.1 refl t.2.2 t.2.3 (omega arith, t.2.0, omega arith, inl t.2.1)

pub returns-in-Ok-true-clause-driven : goal.returns-in-Ok-true-clause-driven
returns-in-Ok-true-clause-driven g c =
    let t = c.in-Ok-true.ensures.over (search rules) in
    driven_end _ _ _ _ _ _ _ _ _ _ _ _ _ Whole c.loop-number.invariant.lines [] t.0 (append-nil _ ∙ t.2) refl refl (omega arith, refl, t.1)

pub returns-in-Ok-false-clause-driven : goal.returns-in-Ok-false-clause-driven
returns-in-Ok-false-clause-driven g c =
    let t = c.in-Ok-false.ensures.more (search rules) in
    driven_end _ _ _ _ _ _ _ _ _ _ _ _ _ (BadLine 1000001) c.loop-number.invariant.lines t.0 t.1 refl refl refl (omega arith, not_empty _ t.2, omega arith, inr (omega arith))

pub returns-in_err-one_line-clause-driven : goal.returns-in_err-one_line-clause-driven
returns-in_err-one_line-clause-driven g c =
    let p = err_from_is_err_and c.from_residual.result c.from_residual.ensures.1 in
    let t = c.in_err-one_line.ensures.turned in
    rw (p.1, p.2) (stopped_by _ _ _ _ _ _ _ _ _ (IsAtEnd (g.R.Source.remaining c.one_line.new.reader)) _ _ _ _ c.in_err-one_line.field-0.0 c.loop-number.invariant.lines (omega arith) t.0 t.1 t.2)

pub returns-in-Err-clause-driven : goal.returns-in-Err-clause-driven
returns-in-Err-clause-driven g c =
    let t = c.in-Err.ensures.err in
    stopped_last _ _ _ _ _ _ _ _ _ _ c.loop-number.invariant.lines (omega arith) t.1 t.2
