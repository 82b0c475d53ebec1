use Rattle.std.proofs.Common.{rules, ◌≡◌, ℕ, ◌+◌, ◌<◌, sym, refl, ap, subst, ◌∙◌, arith}
use Rattle.atomic_table.specs.Seated.{TableId}
use Rattle.atomic_table.specs.Table.{Allows}
use Rattle.link_inbox.specs.States.{IsFor, SendState, HalfLink, inbox_of}
use Rattle.link_inbox.specs.Rule.{IsInOrder}
use Rattle.link_inbox.specs.Steps.{links}
use Rattle.link_inbox.proofs.Seating.{same_inbox, is_half}
use Rattle.link_inbox.proofs.Link.{links_ok}
use Rattle.link_inbox.proofs.inbox.LinkInbox.link.Goals as goal

pub store-requires : goal.store-requires
store-requires c =
    let seat = c.seat.inside in let table = c.self.inside.nodes.shared in let me = seat.token.me in let wide = c.self.invariant.1 in
    let same = (same_inbox seat.token.table_id table.table_id me.0.place c.self.inside.place (ap (λ (s : SendState). s.inbox) c.seat.view_is ∙ (c.requires.seat.0 ∙ sym c.self.view_is))).0 in
    let half = is_half me.0.role me.0.node me.0.before _ (ap (λ (s : SendState). s.half) c.seat.view_is ∙ c.requires.seat.1) in
    let node : me.0.node ≡ c.attached.inside.node = half.1 ∙ sym (ap (λ (h : HalfLink). h.node) c.attached.view_is) in
    let before : me.0.before ≡ c.attached.inside.before = half.2 ∙ sym (ap (λ (h : HalfLink). h.before) c.attached.view_is) in
    let slots : table.table_id.slots ≡ seat.token.table_id.slots = ap (λ (z : TableId). z.slots) (sym same) in let near : me.0.before < seat.token.table_id.slots = c.seat.invariant.near.0 in (
      same,
      omega arith,
      subst (λ (z : ℕ × ℕ). Allows (IsInOrder IsFor table.key) table.table_id.slots seat.token.id me (z.0 + 1) (λ _. z.1) (λ _ m. links me m)) (λ i. (before i, node i)) (links_ok IsFor table.key _ _ me half.0),
    )
