use Rattle.std.proofs.Common.{IsPermutation, sym, subst}
use Rattle.std.proofs.lemmas.Result.{IfErr-weaker, IfOk-weaker}
use Rattle.event_floor.specs.headline.ListsSlots.{slots_on}
use Rattle.trace_audit.proofs.OnceOnFloors.{each_once}
use Rattle.trace_audit.proofs.Telling.{refused}
use Rattle.trace_audit.proofs.auditing.audit_floor.Goals as goal

pub returns-in-Ok-slots_on : goal.returns-in-Ok-slots_on
returns-in-Ok-slots_on c =
    let all = subst (λ w. IsPermutation (slots_on c.args.floor.now) w) (sym c.as_slice.ensures.value) c.in-Ok-slots_on.ensures in
    record {
      ok = IfOk-weaker c.audit.result _ _
          (λ u once. (c.in-Ok.drawn, c.in-Ok.ensures, each_once c.args.floor.now c.in-Ok.drawn c.as_slice.result.now all once)) c.audit.ensures.ok;
      err = IfErr-weaker c.audit.result _ _ (λ fault is. (c.in-Ok.drawn, c.as_slice.result.now, c.in-Ok.ensures, all, is)) c.audit.ensures.err;
    }

pub returns-in_default-clause-err : goal.returns-in_default-clause-err
returns-in_default-clause-err c = refused c.args.floor.now

pub returns-clause-err : goal.returns-clause-err
returns-clause-err c = refused c.args.floor.now
