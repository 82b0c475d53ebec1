use Rattle.std.proofs.Common.{◌≡◌, ℕ, ◌+◌, ◌*◌, ◌≤◌, ◌<◌, [], ◌++◌, ◌%◌, length, length-append, sym, refl, ap, subst, ◌∙◌, arith, ◌∷◌}
use Rattle.std.specs.Prelude.{None}
use Rattle.atomic_table.specs.Seated.{TableId}
use Rattle.atomic_table.specs.Table.{Allows, step, rest}
use mathlib.Core.Option.{none}
use Rattle.batch_inbox.specs.States.{InboxId}
use Rattle.link_inbox.specs.States.{IsFor, SendState, inbox_of, half_of, is_idle, is_sender}
use Rattle.link_inbox.specs.Rule.{IsInOrder}
use Rattle.link_inbox.specs.Steps.{attaches}
use Rattle.link_inbox.specs.declared.rule.Role.TheVariants.{Attached}
use Rattle.link_inbox.proofs.Lists.{rest_is, first_same, turn_more}
use Rattle.link_inbox.proofs.Seating.{same_inbox, is_at_rest}
use Rattle.link_inbox.proofs.Prepare.{prepares_ok}
use Rattle.link_inbox.proofs.Attach.{attaches_ok}
use Rattle.link_inbox.proofs.inbox.LinkInbox.attach.Goals as goal

pub compare_exchange-found-requires : goal.compare_exchange-found-requires
compare_exchange-found-requires c =
    let seat = c.seat.inside in let table = c.self.inside.nodes.shared in let is = c.seat.invariant in
    let same = (same_inbox seat.token.table_id table.table_id seat.token.me.0.place c.self.inside.place (ap (λ (s : SendState). s.inbox) c.seat.view_is ∙ (c.requires.seat.0 ∙ sym c.self.view_is))).0 in
    let slots : table.table_id.slots ≡ seat.token.table_id.slots = ap (λ (z : TableId). z.slots) (sym same) in let wide = c.self.invariant.1 in
    let own = is.own in let low = is.low in let role = is_at_rest seat.token.me.0.role _ _ is.role (ap (λ (s : SendState). s.half) c.seat.view_is ∙ c.requires.seat.1) in
    (same, omega arith, prepares_ok IsFor table.key _ _ (seat.sender * 16 + 1 + seat.turn) seat.token.me role (ap (λ (z : ℕ). z) (let k : ℕ = length seat.token.me.0.list in let t : seat.turn ≡ k % 16 = is.turned in let e : seat.token.me.0.sender ≡ seat.sender = is.numbered in let g : seat.sender * 16 + 1 + seat.turn ≡ seat.token.me.0.sender * 16 + 1 + k % 16 = omega arith in g)) (omega arith))

pub exchange-unused-requires : goal.exchange-unused-requires
exchange-unused-requires c =
    let seat = c.seat.inside in let table = c.self.inside.nodes.shared in
    let same = (same_inbox seat.token.table_id table.table_id seat.token.me.0.place c.self.inside.place (ap (λ (s : SendState). s.inbox) c.seat.view_is ∙ (c.requires.seat.0 ∙ sym c.self.view_is))).0 in
    let had = c.compare_exchange-found.ensures.2.0 c.if-found.false _ refl in (c.compare_exchange-found.ensures.0 ∙ same, (None, rest_is _ _ _ _ had.1))

pub into_empty-requires : goal.into_empty-requires
into_empty-requires c = let had = c.compare_exchange-found.ensures.2.0 c.if-found.false _ refl in sym (first_same _ _ _ _ _ _ _ had.1 c.exchange-unused.ensures.2)

pub swap-before-requires : goal.swap-before-requires
swap-before-requires c =
    let seat = c.seat.inside in let table = c.self.inside.nodes.shared in let is = c.seat.invariant in let had = c.compare_exchange-found.ensures.2.0 c.if-found.false _ refl in
    let same = (same_inbox seat.token.table_id table.table_id seat.token.me.0.place c.self.inside.place (ap (λ (s : SendState). s.inbox) c.seat.view_is ∙ (c.requires.seat.0 ∙ sym c.self.view_is))).0 in
    let wide = c.self.invariant.1 in
    let after = c.exchange-unused.new.seat in let now = c.exchange-unused.ensures.3 in let v = ap (λ m. m.0) now ∙ had.0 in let n : ℕ = seat.sender * 16 + 1 + seat.turn in (
      c.exchange-unused.ensures.0 ∙ (c.compare_exchange-found.ensures.0 ∙ same),
      omega arith,
      subst (λ (z : ℕ). Allows (IsInOrder IsFor table.key) table.table_id.slots after.id after.me 0 (λ _. z) (attaches (step table.table_id.slots 0 z 0 none) after.me)) (ap (λ u. u.node) v)
          (attaches_ok IsFor table.key _ _ after.me c.args.batch _ (ap (λ u. u.role) v) (ap (λ m. m.1) now ∙ (λ i. (sym (ap (λ u. u.node) v) i, c.full.ensures i) ∷ rest c.compare_exchange-found.new.seat.me.1))
          (c.requires.batch.1 ∙ (sym (ap (λ (s : SendState). s.sender) c.seat.view_is) ∙ sym (ap (λ u. u.sender) v ∙ is.numbered)), c.requires.batch.0 ∙ (sym (ap (λ (m : InboxId). m.place) c.self.view_is) ∙ sym c.self.invariant.0))),
    )

pub invariant_of-seat-2 : goal.invariant_of-seat-2
invariant_of-seat-2 c =
    let seat = c.seat.inside in let is = c.seat.invariant in let table = c.self.inside.nodes.shared in let had = c.compare_exchange-found.ensures.2.0 c.if-found.false _ refl in
    let at = (same_inbox seat.token.table_id table.table_id seat.token.me.0.place c.self.inside.place (ap (λ (s : SendState). s.inbox) c.seat.view_is ∙ (c.requires.seat.0 ∙ sym c.self.view_is))).0 in
    let after = c.exchange-unused.new.seat in let now = c.exchange-unused.ensures.3 in let v = ap (λ m. m.0) now ∙ had.0 in let told = c.swap-before.ensures.2 in
    let did = told.1 c.args.batch (rest_is _ _ _ _ (ap (λ m. m.1) now ∙ (λ i. (sym (ap (λ u. u.node) v) i, c.full.ensures i) ∷ rest c.compare_exchange-found.new.seat.me.1))) in
    let same : c.swap-before.new.seat.table_id ≡ seat.token.table_id = c.swap-before.ensures.0 ∙ (c.exchange-unused.ensures.0 ∙ c.compare_exchange-found.ensures.0) in
    let slots : table.table_id.slots ≡ c.swap-before.new.seat.table_id.slots = ap (λ (z : TableId). z.slots) (sym (same ∙ at)) in
    let l : c.swap-before.new.seat.me.0.list ≡ seat.token.me.0.list ++ c.args.batch ∷ [] = ap (λ u. u.list) did ∙ ap (λ l. l ++ c.args.batch ∷ []) (ap (λ u. u.list) v) in
    let long : length c.swap-before.new.seat.me.0.list ≡ length seat.token.me.0.list + 1 = ap length l ∙ length-append seat.token.me.0.list (c.args.batch ∷ []) in
    let own : 16 * seat.sender + 17 ≤ c.swap-before.new.seat.table_id.slots = subst (λ (z : TableId). 16 * seat.sender + 17 ≤ z.slots) (sym same) is.own in
    let node : c.swap-before.new.seat.me.0.node ≡ seat.sender * 16 + 1 + seat.turn = ap (λ u. u.node) did ∙ ap (λ u. u.node) v in
    let before : c.swap-before.new.seat.me.0.before ≡ c.swap-before.result = ap (λ u. u.before) did in
    let found : c.swap-before.result < table.table_id.slots = told.0 in let low = is.low in
    record {
      role = ap is_sender (ap (λ u. u.role) did);
      resting = sym (ap is_idle (ap (λ u. u.role) did));
      turned = (let k : ℕ = length seat.token.me.0.list in let t : seat.turn ≡ k % 16 = is.turned in let g : (seat.turn + 1) % 16 ≡ length c.swap-before.new.seat.me.0.list % 16 = turn_more k seat.turn _ t long in g);
      numbered = ap (λ u. u.sender) did ∙ (ap (λ u. u.sender) v ∙ is.numbered);
      low = omega arith;
      own = own;
      near = (omega arith, omega arith);
      empty = told.2 ∙ ap rest (ap (λ m. m.1) now) ∙ ap rest had.1 ∙ is.empty;
    }

pub returns-clause-seat : goal.returns-clause-seat
returns-clause-seat c =
    let seat = c.seat.inside in let had = c.compare_exchange-found.ensures.2.0 c.if-found.false _ refl in
    let now = c.exchange-unused.ensures.3 in let v = ap (λ m. m.0) now ∙ had.0 in let told = c.swap-before.ensures.2 in
    let did = told.1 c.args.batch (rest_is _ _ _ _ (ap (λ m. m.1) now ∙ (λ i. (sym (ap (λ u. u.node) v) i, c.full.ensures i) ∷ rest c.compare_exchange-found.new.seat.me.1))) in
    let same : c.swap-before.new.seat.table_id ≡ seat.token.table_id = c.swap-before.ensures.0 ∙ (c.exchange-unused.ensures.0 ∙ c.compare_exchange-found.ensures.0) in
    let place : c.swap-before.new.seat.me.0.place ≡ seat.token.me.0.place = ap (λ u. u.place) did ∙ ap (λ u. u.place) v in
    ((λ i. inbox_of (same i) (place i)) ∙ ap (λ (s : SendState). s.inbox) c.seat.view_is, ap (λ (s : SendState). s.sender) c.seat.view_is)

pub returns-clause-batch : goal.returns-clause-batch
returns-clause-batch c =
    let seat = c.seat.inside in let had = c.compare_exchange-found.ensures.2.0 c.if-found.false _ refl in
    let now = c.exchange-unused.ensures.3 in let v = ap (λ m. m.0) now ∙ had.0 in let told = c.swap-before.ensures.2 in
    let did = told.1 c.args.batch (rest_is _ _ _ _ (ap (λ m. m.1) now ∙ (λ i. (sym (ap (λ u. u.node) v) i, c.full.ensures i) ∷ rest c.compare_exchange-found.new.seat.me.1))) in (
      ap (λ u. u.list) did ∙ ap (λ l. l ++ c.args.batch ∷ []) (ap (λ u. u.list) v ∙ ap (λ (s : SendState). s.sent) c.seat.view_is),
      ap (λ u. half_of u.role u.node u.before) did ∙ ap (λ (n : ℕ). half_of Attached n c.swap-before.result) (ap (λ u. u.node) v),
    )
