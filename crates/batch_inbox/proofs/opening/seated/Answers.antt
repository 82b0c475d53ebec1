use Rattle.std.proofs.Common.{◌+◌, [], ◌∷◌, sym, ap, ◌∙◌, length-append}
use Rattle.batch_inbox.specs.declared.rule.View.{View}
use Rattle.batch_inbox.specs.Views.{taker, poster}
use Rattle.batch_inbox.specs.States.{InboxId, inbox_of}
use Rattle.batch_inbox.proofs.KeepsRule.{makes}
use Rattle.batch_inbox.proofs.Drained.{taker_is}
use Rattle.batch_inbox.proofs.NewSeats.{seats_more, new_more}
use Rattle.batch_inbox.proofs.opening.seated.Goals as goal

pub another-seat-requires-clause-rule : goal.another-seat-requires-clause-rule
another-seat-requires-clause-rule c = makes _ _ (taker_is _ _ _ _ _ c.loop-sender.invariant.1)

pub loop-sender-preserved : goal.loop-sender-preserved
loop-sender-preserved c =
    let i = c.loop-sender.invariant in
    let q = c.another-seat.ensures.queue in
    let r = c.another-seat.ensures.rule in
    let made = r.1 ∙ ap (λ (v : View). poster v.place v.made []) i.1 in
    let inbox : InboxId = inbox_of c.args.queue.now.web c.args.pass.now.me.view.client.place in
    rw c.in_ok-push.ensures.items (
      q.0,
      r.0 ∙ ap (λ (v : View). taker v.place (v.made + 1) v.taken v.known) i.1,
      seats_more inbox _ _ i.2 (λ k. inbox_of (q.2.0.0 k) (made k).place) (sym i.3),
      length-append c.loop-sender.seats.items (_ ∷ []) ∙ ap (λ n. n + 1) i.3,
      new_more _ _ i.4 (ap (λ (v : View). v.sent) made),
    )
