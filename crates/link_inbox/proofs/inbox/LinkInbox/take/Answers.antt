use Rattle.std.proofs.Common.{◌≡◌, ℕ, ◌+◌, ◌<◌, sym, ap, subst, ◌∙◌, arith, ◌∷◌}
use Rattle.std.specs.Prelude.{Some, None}
use Rattle.atomic_table.specs.Seated.{TableId}
use Rattle.atomic_table.specs.Table.{Allows, step, rest}
use mathlib.Core.Option.{none}
use Rattle.batch_inbox.specs.States.{TakeState}
use Rattle.link_inbox.specs.States.{IsFor}
use Rattle.link_inbox.specs.Rule.{IsInOrder, free_mark}
use Rattle.link_inbox.specs.Steps.{takes_next, frees}
use Rattle.link_inbox.proofs.Lists.{rest_is}
use Rattle.link_inbox.proofs.Seating.{same_inbox}
use Rattle.link_inbox.proofs.Take.{takes_ok, frees_ok}
use Rattle.link_inbox.proofs.inbox.LinkInbox.take.Goals as goal

pub load-found-requires : goal.load-found-requires
load-found-requires c =
    let seat = c.seat.inside in let table = c.self.inside.nodes.shared in let me = seat.token.me in let wide = c.self.invariant.1 in
    let same = (same_inbox seat.token.table_id table.table_id me.0.place c.self.inside.place (ap (λ (s : TakeState). s.inbox) c.seat.view_is ∙ (c.requires ∙ sym c.self.view_is))).0 in
    let slots : table.table_id.slots ≡ seat.token.table_id.slots = ap (λ (z : TableId). z.slots) (sym same) in let near : seat.front < seat.token.table_id.slots = c.seat.invariant.inside in (
      same,
      omega arith,
      subst (λ (z : ℕ). Allows (IsInOrder IsFor table.key) table.table_id.slots seat.token.id me (z + 1) (λ y. y) (takes_next IsFor (step table.table_id.slots (z + 1) 0 0 none) me)) c.seat.invariant.fronted (takes_ok IsFor table.key _ _ me c.seat.invariant.role),
    )

pub lift-batch-requires : goal.lift-batch-requires
lift-batch-requires c =
    let seat = c.seat.inside in let table = c.self.inside.nodes.shared in
    let same = (same_inbox seat.token.table_id table.table_id seat.token.me.0.place c.self.inside.place (ap (λ (s : TakeState). s.inbox) c.seat.view_is ∙ (c.requires ∙ sym c.self.view_is))).0 in
    let found = c.load-found.ensures.2.1 c.if-found-eq0.false in (c.load-found.ensures.0 ∙ same, (Some found.1.0, rest_is _ _ _ _ found.1.3))

pub store-requires : goal.store-requires
store-requires c =
    let seat = c.seat.inside in let table = c.self.inside.nodes.shared in let found = c.load-found.ensures.2.1 c.if-found-eq0.false in let wide = c.self.invariant.1 in
    let same = (same_inbox seat.token.table_id table.table_id seat.token.me.0.place c.self.inside.place (ap (λ (s : TakeState). s.inbox) c.seat.view_is ∙ (c.requires ∙ sym c.self.view_is))).0 in
    let slots : table.table_id.slots ≡ seat.token.table_id.slots = ap (λ (z : TableId). z.slots) (sym same) in let near : seat.front < seat.token.table_id.slots = c.seat.invariant.inside in
    let after = c.lift-batch.new.token in let now = c.lift-batch.ensures.left in let v = ap (λ m. m.0) now ∙ found.1.2 in (
      c.lift-batch.ensures.same.0 ∙ (c.load-found.ensures.0 ∙ same),
      omega arith,
      subst (λ (z : ℕ). Allows (IsInOrder IsFor table.key) table.table_id.slots after.id after.me (z + 1) (λ _. free_mark) (λ _ m. frees after.me m)) (ap (λ u. u.before) v ∙ c.seat.invariant.fronted)
          (frees_ok IsFor table.key _ _ after.me _ (ap (λ u. u.role) v) (ap (λ m. m.1) now ∙ (λ i. (sym (ap (λ u. u.node) v) i, None) ∷ rest c.load-found.new.seat.me.1))),
    )
