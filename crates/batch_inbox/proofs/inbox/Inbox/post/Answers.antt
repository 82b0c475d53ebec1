use Rattle.std.proofs.Common.{ap, ◌∙◌, sym, ◌≡◌}
use Rattle.batch_inbox.specs.declared.rule.View.{View}
use Rattle.batch_inbox.specs.Views.{poster}
use Rattle.batch_inbox.specs.States.{InboxId, SendState}
use Rattle.batch_inbox.proofs.KeepsRule.{posts}
use Rattle.batch_inbox.proofs.inbox.Inbox.post.Goals as goal

pub push_as-requires-clause-rule : goal.push_as-requires-clause-rule
push_as-requires-clause-rule g c n =
    let v = c.seat.inside.pass.me.view.client in
    let is = c.seat.invariant.2 in
    let numbered : v.sender ≡ c.seat.inside.sender = ap (λ (u : View). u.sender) is in
    let placed = ap (λ (s : SendState). s.inbox.place) c.seat.view_is ∙ ap (λ (m : InboxId). m.place) c.requires.seat in
    posts n _ _ _ (is ∙ ap (λ k. poster v.place k v.sent) (sym numbered))
    (c.requires.batch.1 ∙ sym (ap (λ (s : SendState). s.sender) c.seat.view_is) ∙ sym numbered)
    (c.requires.batch.0 ∙ sym placed)
