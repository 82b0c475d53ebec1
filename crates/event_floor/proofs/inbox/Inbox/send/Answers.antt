use Rattle.std.proofs.Common.{◌≡◌, ◌<◌, ◌∙◌, ◌++◌, ◌∷◌, [], All, ap, sym, subst}
use Rattle.event_floor.specs.Inboxes.{QueuedState, NumbersRise, sent_as}
use Rattle.event_floor.proofs.HeldLaws.{on_err}
use Rattle.event_floor.proofs.RiseLaws.{rises_sent}
use Rattle.event_floor.proofs.inbox.Inbox.send.Goals as goal

pub invariant_of-self : goal.invariant_of-self
invariant_of-self c = subst (λ z. NumbersRise z) (sym c.in_err-try_reserve.ensures.items) c.self.invariant

pub returns-in_err-try_reserve-clause-refused : goal.returns-in_err-try_reserve-clause-refused
returns-in_err-try_reserve-clause-refused c = on_err c.from_residual.result (c.in_err-try_reserve.ensures.items ∙ c.self.view_is)

pub invariant_of-self-2 : goal.invariant_of-self-2
invariant_of-self-2 c =
    let p = sent_as c.args.number c.take_for-batch.result in
    let queued : c.push_back_reserved.new.self.items ≡ c.self.inside.batches.items ++ p ∷ [] =
    c.push_back_reserved.ensures.items ∙ (ap (λ z. z ++ c.new.result ∷ []) c.in_ok-try_reserve.ensures.items ∙ ap (λ (z : QueuedState). c.self.inside.batches.items ++ z ∷ []) c.new.ensures) in
    subst (λ z. NumbersRise z) (sym queued)
    (rises_sent c.self.inside.batches.items p c.self.invariant (subst (λ z. All (λ (q : QueuedState). q.batch.number < c.args.number) z) (sym c.self.view_is) c.requires.later))

pub returns-clause-sends : goal.returns-clause-sends
returns-clause-sends c =
    let batch = c.take_for-batch.ensures in
    record {
      batch = c.take_for-batch.result;
      address = batch.address;
      gives = batch.gives;
      same_desk = batch.same;
      counted = c.len-count.ensures;
      queued = c.push_back_reserved.ensures.items
          ∙ (ap (λ z. z ++ c.new.result ∷ []) (c.in_ok-try_reserve.ensures.items ∙ c.self.view_is) ∙ ap (λ (z : QueuedState). c.args.self.now ++ z ∷ []) c.new.ensures);
    }
