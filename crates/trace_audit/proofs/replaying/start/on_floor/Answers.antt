use Rattle.std.proofs.Common.{Bool, refl, subst, sym}
use Rattle.std.proofs.lemmas.Result.{err_from_is_err_and}
use Rattle.trace_audit.specs.Replay.{Failures}
use Rattle.trace_audit.proofs.Finishes.{driven_shows, opened_shows}
use Rattle.trace_audit.proofs.Headers.{none_for_no_room}
use Rattle.trace_audit.proofs.Replays.{finished, only_line, stopped}
use Rattle.trace_audit.proofs.WholeTraces.{no_room}
use Rattle.trace_audit.proofs.replaying.start.on_floor.Goals as goal

pub returns-in_default-clause-replayed : goal.returns-in_default-clause-replayed
returns-in_default-clause-replayed g c first read =
    only_line c.args.audits _ _ _ _ _ _ _ c.only.result refl (none_for_no_room c.args.audits) (λ P p. no_room first _ c.args.header _ c.requires.header read P p) c.only.ensures.written

pub returns-in_default-floor_over-clause-replayed : goal.returns-in_default-floor_over-clause-replayed
returns-in_default-floor_over-clause-replayed g c first read =
    only_line c.args.audits _ _ _ _ _ _ _ c.only-in_default-floor_over.result refl (none_for_no_room c.args.audits) (λ P p. no_room first _ c.args.header _ c.requires.header read P p) c.only-in_default-floor_over.ensures.written

pub finish-requires-clause-shows : goal.finish-requires-clause-shows
finish-requires-clause-shows g c =
    driven_shows c.runs_keep_numbers.ensures _ _ _ _ _ _ c.drive.new.floor c.in_ok-end.end (opened_shows c.args.header _ c.requires.header c.in-Ok-floor_over.ensures) c.in_ok-end.ensures.driven

pub returns-clause-replayed : goal.returns-clause-replayed
returns-clause-replayed g c =
    finished c.args.header c.requires.header _ c.in-Ok-floor_over.ensures (record { counts = c.floors_tell_counts.ensures; numbers = c.runs_keep_numbers.ensures })
    c.args.audits _ _ _ _ _ _ c.drive.new.floor c.in_ok-end.end c.finish.result c.in_ok-end.ensures.driven c.finish.ensures.finished

pub returns-in_err-end-clause-replayed : goal.returns-in_err-end-clause-replayed
returns-in_err-end-clause-replayed g c =
    let p = err_from_is_err_and c.from_residual.result c.from_residual.ensures.1 in
    rw (p.1, p.2) (stopped c.args.header c.requires.header _ c.in-Ok-floor_over.ensures c.requests_are_answered.ensures c.args.audits _ _ _ _ _ c.drive.new.floor c.in_err-end.field-0.0 c.in_err-end.ensures.driven)

pub returns-clause-flags : goal.returns-clause-flags
returns-clause-flags g c = subst (λ (b : Bool). Failures b (g.W.Sink.has_failed c.finish.new.writer) c.finish.result) (sym c.in_ok-end.ensures.flags.0) c.finish.ensures.flags

pub returns-in_err-end-clause-flags : goal.returns-in_err-end-clause-flags
returns-in_err-end-clause-flags g c =
    let p = err_from_is_err_and c.from_residual.result c.from_residual.ensures.1 in
    rw (p.1, p.2) c.in_err-end.ensures.flags
