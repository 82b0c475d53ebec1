use Rattle.std.proofs.Common.{List, ℕ, ◌++◌, inl, ◌∙◌, ap, subst, take}
use Rattle.std.specs.Io.KnownBytes.{Consumes}
use Rattle.std.proofs.KnownBytes.{Appends-nil}
use Rattle.trace_audit.specs.Replay.{IsPartial}
use Rattle.trace_audit.proofs.FirstLines.{bad_text, bad_front, bad_over, line_taken, taken_line}
use Rattle.trace_audit.proofs.Fronts.{header_lacks, header_short}
use Rattle.trace_audit.proofs.Headers.{bad_line_one, first_is, none_asked}
use Rattle.trace_audit.specs.Grammar.{IsHeader, header_text}
use Rattle.trace_audit.proofs.Replays.{only_line, read_failed}
use Rattle.trace_audit.proofs.WholeTraces.{bad_header}
use Rattle.trace_audit.proofs.replaying.start.play.Goals as goal

pub returns-in-Some-clause-replayed : goal.returns-in-Some-clause-replayed
returns-in-Some-clause-replayed g c =
    let t = rw c.in-Ok-Text.field-0-is at c.in-Ok-Text.ensures.ok in
    c.on_floor.ensures.replayed _ (subst (λ (w : List ℕ). Consumes (g.R.Source.remaining c.args.reader.now) (g.R.Source.remaining c.next_line.new.reader) w)
    (line_taken t.0 (take c.in-Ok-Text.count c.next_line.new.held.items) c.front.result.now c.pass.new.self.items (header_text c.in-Some.header) (first_is _ _ _ c.new-held.ensures (taken_line _ _ _ c.in-Ok-Text.count t.2.0 t.2.1.0 c.pass.ensures)) c.front.ensures c.in-Some.ensures.found.1) t.1)

pub returns-in-None-clause-replayed : goal.returns-in-None-clause-replayed
returns-in-None-clause-replayed g c =
    let t = rw c.in-Ok-Text.field-0-is at c.in-Ok-Text.ensures.ok in
    only_line c.args.audits _ _ _ _ _ _ _ c.only.result bad_line_one (none_asked c.args.audits) (λ P p. bad_header _ _ t.0 t.1
    (bad_text IsHeader header_text header_lacks header_short t.0 (take c.in-Ok-Text.count c.next_line.new.held.items) _ _ (first_is _ _ _ c.new-held.ensures (t.2.0 ∙ t.2.1.0)) t.2.1.1 (λ h fits is. c.in-None.ensures.none h fits (c.front.ensures ∙ is))) P p) c.only.ensures.written

pub returns-in-Ok-Over-clause-replayed : goal.returns-in-Ok-Over-clause-replayed
returns-in-Ok-Over-clause-replayed g c =
    let t = rw c.in-Ok-Over.field-0-is at c.in-Ok-Over.ensures.ok in
    only_line c.args.audits _ _ _ _ _ _ _ c.only-in-Ok-Over.result bad_line_one (none_asked c.args.audits) (λ P p. bad_header _ _ t.0 t.1
    (bad_over IsHeader header_text header_lacks header_short t.0 _ (first_is _ _ _ c.new-held.ensures t.2.0) t.2.2) P p) c.only-in-Ok-Over.ensures.written

pub returns-in-Ok-Bad-clause-replayed : goal.returns-in-Ok-Bad-clause-replayed
returns-in-Ok-Bad-clause-replayed g c =
    let t = rw c.in-Ok-Bad.field-0-is at c.in-Ok-Bad.ensures.ok in
    only_line c.args.audits _ _ _ _ _ _ _ c.only-in-Ok-Bad.result bad_line_one (none_asked c.args.audits) (λ P p. bad_header _ _ t.0 t.1
    (bad_front IsHeader header_text header_lacks header_short t.0 c.next_line.new.held.items _ (first_is _ _ _ c.new-held.ensures t.2.0) t.2.1 t.2.2) P p) c.only-in-Ok-Bad.ensures.written

pub returns-in-Err-clause-replayed : goal.returns-in-Err-clause-replayed
returns-in-Err-clause-replayed g c =
    let p = c.in-Err.ensures.err in
    read_failed c.args.audits _ _ _ _ p.0 p.1 (inl (subst (λ (w : List ℕ). IsPartial w) (p.2 ∙ ap (λ (w : List ℕ). w ++ p.0) c.new-held.ensures) p.3, Appends-nil _))
