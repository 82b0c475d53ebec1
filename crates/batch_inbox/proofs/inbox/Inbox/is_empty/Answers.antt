use Rattle.std.proofs.Common.{ap, ◌∙◌, sym, ◌≡◌, subst}
use Rattle.batch_inbox.specs.declared.rule.View.{View}
use Rattle.batch_inbox.specs.Order.{IsInOrder}
use Rattle.batch_inbox.specs.States.{view_of}
use Rattle.crossbeam_queue.specs.Fifo.{Learns}
use Rattle.batch_inbox.proofs.inbox.Inbox.is_empty.Goals as goal

pub is_empty_as-requires-clause-rule : goal.is_empty_as-requires-clause-rule
is_empty_as-requires-clause-rule g c =
    let v = c.seat.inside.pass.me.view.client in
    let same : view_of c.args.seat.now ≡ v = ap view_of (sym c.seat.view_is) ∙ sym c.seat.invariant.2 in
    subst (λ (u : View). Learns IsInOrder c.seat.inside.pass.id u (g.L.Lesson.fact u)) same (c.requires.lesson c.seat.inside.pass.id)
