use Rattle.std.proofs.Common.{◌≡◌, ◌<◌, length, refl, sym, ap, ◌∙◌, arith, subst}
use Rattle.std.proofs.lemmas.Option.{slice_get_read}
use Rattle.pool_fabric.specs.Names.{box_at}
use Rattle.slot_balance.proofs.Posting.{get_map, length-mapped}
use Rattle.pool_fabric.proofs.fabric.Fabric.inbox.Goals as goal

pub returns : goal.returns
returns g c =
    let at = c.from-at.result in
    let in_boxes : at < length c.args.self.now.inboxes.items = omega (arith, c.if-at-len.false, c.len.ensures, c.args.self.now.inboxes.ok) in
    let box = c.args.self.now.boxes.each at _ (get_map g.M.Mailbox.id _ at _ (slice_get_read _ _ at _ refl in_boxes c.index-inbox.ensures)) in
    let count = sym (length-mapped g.M.Mailbox.id c.args.self.now.inboxes.items) ∙ c.args.self.now.boxes.count in
    let number : at ≡ c.args.number = c.from-at.ensures in (
      subst (λ k. k < g.J.Naming.names.count) number (subst (λ n. at < n) count in_boxes),
      box.0 ∙ ap (box_at g.J.Naming.names) number,
    )
