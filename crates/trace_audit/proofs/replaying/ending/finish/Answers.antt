use Rattle.std.proofs.Common.{refl}
use Rattle.std.proofs.KnownBytes.{Appends-trans}
use Rattle.trace_audit.proofs.Finishes.{not_closed}
use Rattle.trace_audit.proofs.OnceOnFloors.{finds_nothing}
use Rattle.trace_audit.proofs.Plays.{begins_more}
use Rattle.trace_audit.proofs.replaying.ending.finish.Goals as goal

pub returns-in-Ok-tell_audit-clause-finished : goal.returns-in-Ok-tell_audit-clause-finished
returns-in-Ok-tell_audit-clause-finished g c = (
  refl,
  c.in-Ok-tell_audit.ensures.0,
  finds_nothing c.sound_states.ensures.reached c.floors_list_slots.ensures c.args.audits c.args.floor.now _ c.requires.shows c.in-Ok-tell_audit.ensures.0,
  Appends-trans _ _ _ _ _ c.in-Ok.ensures.0 c.in-Ok-tell_audit.ensures.1,
)

pub returns-in-Err-tell_audit-clause-finished : goal.returns-in-Err-tell_audit-clause-finished
returns-in-Err-tell_audit-clause-finished g c =
    let t = c.in-Err-tell_audit.ensures.0 in
    (t.0, finds_nothing c.sound_states.ensures.reached c.floors_list_slots.ensures c.args.audits c.args.floor.now t.0 c.requires.shows t.1, begins_more _ _ _ _ _ c.in-Ok.ensures.0 t.2)

pub returns-in-Err-clause-finished : goal.returns-in-Err-clause-finished
returns-in-Err-clause-finished g c = not_closed c.args.audits c.args.floor.now c.args.end _ _ c.in-Err.ensures.0

pub returns-in-Ok-tell_audit-clause-flags : goal.returns-in-Ok-tell_audit-clause-flags
returns-in-Ok-tell_audit-clause-flags g c = (refl, c.in-Ok-tell_audit.ensures.2)

pub returns-in-Err-tell_audit-clause-flags : goal.returns-in-Err-tell_audit-clause-flags
returns-in-Err-tell_audit-clause-flags g c = (refl, c.in-Err-tell_audit.ensures.1)

pub returns-in-Err-clause-flags : goal.returns-in-Err-clause-flags
returns-in-Err-clause-flags g c = (refl, c.in-Err.ensures.1)
