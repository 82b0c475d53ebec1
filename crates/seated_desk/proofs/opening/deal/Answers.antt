use Rattle.std.proofs.Common.{◌≡◌, [], ◌∷◌, length, sym, ap, ◌∙◌, subst, arith, length-append}
use Rattle.std.specs.Arc.{arc_value}
use Rattle.slot_balance.proofs.Opened.{AreLeft, left_still, none_dealt, take_dealt}
use Rattle.seated_desk.specs.Ways.{IsSeated, seats_at}
use Rattle.seated_desk.proofs.Seated.{seated_dealt}
use Rattle.seated_desk.proofs.Shelved.{new_first, new_rest, numbered_next}
use Rattle.seated_desk.proofs.opening.deal.Goals as goal

pub station-requires-clause-seated : goal.station-requires-clause-seated
station-requires-clause-seated c =
    let d = c.args.profile.now.digits in
    let rest = c.pop.new.self in
    let boxes = (arc_value c.args.inboxes.now).items in
    let takes = c.loop-take.takes.items in
    let popped = c.in-Some.ensures.items in
    let left = subst (λ n. AreLeft d n boxes takes c.loop-take.columns.items) (ap length popped ∙ length-append rest.items (c.in-Some.take ∷ [])) c.loop-take.invariant.left in
    let seated = seated_dealt d (length rest.items) boxes takes rest.items c.in-Some.take _ _ _ left popped c.in_ok-rows.ensures in
    let number : c.len-number.result ≡ length rest.items = c.len-number.ensures ∙ rest.ok.0 in
    subst (λ k. IsSeated d k (arc_value c.in-Some-Ok.inboxes).items c.in-Some.take.inbox (seats_at c.in_ok-rows.field-0.last.items)) (sym number)
    (subst (λ bs. IsSeated d (length rest.items) bs c.in-Some.take.inbox (seats_at c.in_ok-rows.field-0.last.items)) (ap (λ v. v.items) (sym c.in-Some-Ok.ensures')) seated)

pub station-requires-clause-unused : goal.station-requires-clause-unused
station-requires-clause-unused c =
    let d = c.args.profile.now.digits in
    let rest = c.pop.new.self in
    let boxes = (arc_value c.args.inboxes.now).items in
    let takes = c.loop-take.takes.items in
    let popped = c.in-Some.ensures.items in
    let left = subst (λ n. AreLeft d n boxes takes c.loop-take.columns.items) (ap length popped ∙ length-append rest.items (c.in-Some.take ∷ [])) c.loop-take.invariant.left in (
      (take_dealt d (length rest.items) boxes takes rest.items c.in-Some.take _ _ _ left popped c.in_ok-rows.ensures).1,
      none_dealt d (length rest.items) boxes takes rest.items c.in-Some.take _ _ _ left popped c.in_ok-rows.ensures,
    )

pub station-requires-clause-new : goal.station-requires-clause-new
station-requires-clause-new c = new_first c.in-Some-Ok.drawer c.next.new.self.rest.items c.loop-take.drawers.rest.items c.in-Some-Ok.ensures.items c.loop-take.invariant.new

pub loop-take-preserved : goal.loop-take-preserved
loop-take-preserved c =
    let i = c.loop-take.invariant in
    let d = c.args.profile.now.digits in
    let rest = c.pop.new.self in
    let boxes = (arc_value c.args.inboxes.now).items in
    let takes = c.loop-take.takes.items in
    let popped = c.in-Some.ensures.items in
    let counted = ap length popped ∙ length-append rest.items (c.in-Some.take ∷ []) in
    let left = subst (λ n. AreLeft d n boxes takes c.loop-take.columns.items) counted i.left in
    let number : c.station.result.desk.number ≡ length rest.items = c.station.ensures.0 ∙ c.len-number.ensures ∙ rest.ok.0 in
    let more = ap length c.in_ok-push.ensures.items ∙ length-append c.loop-take.shelf.items (c.station.result ∷ []) in
    let before = i.count in
    record {
      numbered = numbered_next c.args.profile.now.pool (length c.args.takes.items) c.loop-take.shelf.items c.push.new.self.items c.station.result i.numbered (omega (arith, number, counted, before)) c.station.ensures.1 c.in_ok-push.ensures.items;
      count = omega (arith, more, counted, before);
      left = left_still d (length rest.items) boxes takes rest.items c.in-Some.take _ _ _ left popped c.in_ok-rows.ensures;
      new = new_rest c.in-Some-Ok.drawer c.next.new.self.rest.items c.loop-take.drawers.rest.items c.in-Some-Ok.ensures.items i.new;
    }
