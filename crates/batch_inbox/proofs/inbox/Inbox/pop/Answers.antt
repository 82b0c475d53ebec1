use Rattle.std.proofs.Common.{ap, ◌∙◌, sym, ◌≡◌, subst}
use Rattle.batch_inbox.specs.declared.rule.View.{View}
use Rattle.batch_inbox.specs.Views.{taker}
use Rattle.batch_inbox.specs.Order.{IsInOrder}
use Rattle.batch_inbox.specs.States.{view_of}
use Rattle.crossbeam_queue.specs.Fifo.{Learns}
use Rattle.batch_inbox.proofs.KeepsRule.{takes}
use Rattle.batch_inbox.proofs.inbox.Inbox.pop.Goals as goal

pub pop_as-requires-clause-rule : goal.pop_as-requires-clause-rule
pop_as-requires-clause-rule g c =
    let v = c.seat.inside.pass.me.view.client in
    let is = c.seat.invariant.2 in
    let same : view_of c.args.seat.now ≡ v = ap view_of (sym c.seat.view_is) ∙ sym is in (
      takes _ _ (is ∙ ap (λ k. taker v.place v.made v.taken k) (sym (ap (λ (u : View). u.known) is))),
      subst (λ (u : View). Learns IsInOrder c.seat.inside.pass.id u (g.L.Lesson.fact u)) same (c.requires.lesson c.seat.inside.pass.id),
    )
