use Rattle.std.proofs.Common.{map, sym, ap, ◌∙◌, subst}
use Rattle.std.specs.Arc.{arc_value}
use Rattle.std.proofs.lemmas.List.{map-id}
use Rattle.batch_inbox.specs.States.{InboxId}
use Rattle.slot_balance.specs.Opened.{AreOpened}
use Rattle.seated_desk.proofs.opening.stations.Goals as goal

pub deal-requires-clause-opened : goal.deal-requires-clause-opened
deal-requires-clause-opened c =
    let d = c.args.profile.digits in
    let b = c.in_ok-inboxes.field-0 in
    let e = c.in_ok-inboxes.ensures in
    let boxes = map-id b.inboxes.items ∙ ap (λ v. v.items) (sym c.in-Ok.ensures.ok) in
    subst (λ n. AreOpened d n (arc_value c.in-Ok.inboxes).items b.takes.items b.columns.items) (sym e.count.1)
    (subst (λ is. AreOpened d c.args.desks is b.takes.items b.columns.items) boxes
    (subst (λ ts. AreOpened d c.args.desks (map (λ (i : InboxId). i) b.inboxes.items) ts b.columns.items) (map-id b.takes.items) e.opened))
