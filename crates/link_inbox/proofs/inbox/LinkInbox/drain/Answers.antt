use Rattle.std.proofs.Common.{rules, ◌≡◌, ◌+◌, ◌-◌, ◌*◌, ◌<◌, ◌≤◌, ◌%◌, ◌++◌, [], ◌∷◌, ℕ, List, length, map, sym, refl, ap, subst, ◌∙◌, arith}
use lib.ListN.{get_elem?, length-map}
use mathlib.Core.Option.{some}
use Rattle.std.specs.Mem.Slots.{slots_items, slots_len, slots_counts}
use Rattle.std.specs.Prelude.{slice_index_or}
use Rattle.atomic_table.specs.Seated.{TableId}
use Rattle.atomic_table.proofs.Lists.{at_map}
use Rattle.digit_route.specs.States.{BatchState}
use Rattle.batch_inbox.specs.States.{InboxId, TakeState}
use Rattle.batch_inbox.specs.Views.{batches_of}
use Rattle.link_inbox.specs.States.{SendState, IsFor, inbox_of}
use Rattle.link_inbox.specs.Remains.{row, row_of}
use Rattle.link_inbox.proofs.Lists.{at_get, at_bound}
use Rattle.link_inbox.proofs.Seating.{same_inbox}
use Rattle.link_inbox.proofs.Rounds.{left_rows, left_past}
use Rattle.link_inbox.proofs.Left.{closes, closes_only, owned}
use Rattle.link_inbox.proofs.inbox.LinkInbox.drain.Goals as goal

abbrev sender_of : BatchState → ℕ
sender_of b = b.sender

abbrev sent_of : SendState → List BatchState
sent_of s = s.sent

pub gathered-turns-requires-clause-seats : goal.gathered-turns-requires-clause-seats
gathered-turns-requires-clause-seats c =
    let made : c.seat.inside.token.me.0.made ≡ length c.args.seats.items = ap (λ (s : TakeState). s.senders) c.seat.view_is ∙ sym c.requires.seats.1 in
    let few = c.seat.invariant.few in (
      (λ k s is. let q = c.requires.seats.0 k s is in (q.0 ∙ (sym c.self.view_is ∙ ap (inbox_of c.self.inside.nodes.shared.table_id) (sym c.self.invariant.0)), q.1)),
      omega arith,
      omega arith,
    )

pub returns-clause-all : goal.returns-clause-all
returns-clause-all c k s is =
    let got = c.gathered-turns.ensures in let after = c.gathered-turns.new.token in let v = after.me.0 in let slots = slots_items c.close_with-closed.result.slots in let all : List SendState = c.args.seats.items in
    let shut = c.close_with-closed.ensures in let table = c.self.inside.nodes.shared in let seat = c.seat.inside in
    let same = (same_inbox seat.token.table_id table.table_id seat.token.me.0.place c.self.inside.place (ap (λ (t : TakeState). t.inbox) c.seat.view_is ∙ (c.requires.seat ∙ sym c.self.view_is))).0 in
    let wide : table.table_id.slots ≡ seat.token.table_id.slots = ap (λ (z : TableId). z.slots) (sym same) in
    let whole : seat.token.table_id.slots ≡ seat.token.me.0.made * 16 + 1 = c.seat.invariant.all in
    let number : seat.token.me.0.made ≡ length all = ap (λ (t : TakeState). t.senders) c.seat.view_is ∙ sym c.requires.seats.1 in
    let len : slots_len c.close_with-closed.result.slots ≡ table.table_id.slots = shut.counts.1 in
    let long : slots_len c.close_with-closed.result.slots ≡ length slots = (slots_counts c.close_with-closed.result.slots).0 in
    let known : length v.known ≡ v.made = ap length got.known.0 ∙ (length-map all sent_of ∙ sym (got.taken.1 ∙ number)) in
    let at = at_get all k s is in let low : k < length all = at_bound all k s at in
    let here : get_elem? v.known k ≡ some s.sent = ap (λ (l : List (List BatchState)). get_elem? l k) got.known.0 ∙ at_map sent_of all k s at in
    let main = closes IsFor table.key sender_of (λ _ _ h. h.0) _ v _ slots got.token.1 got.known.1 known shut.values.2 k s.sent here (omega arith) in
    let turn : length s.sent % 16 ≡ slice_index_or c.gathered-turns.result k 0 = sym (got.turns k s is) in
    let full : 16 ≡ 16 - (0 - k * 16) = omega arith in
    let taken : v.list ≡ c.args.seat.taken = got.taken.0 ∙ ap (λ (t : TakeState). t.taken) c.seat.view_is in
    let some_senders : k < c.len-senders.result = omega arith in
    main ∙ (ap (λ (l : List BatchState). batches_of k l ++ row slots (k * 16 + 1) (length s.sent % 16) 16) taken
    ∙ (ap (λ (z : ℕ × ℕ). batches_of k c.args.seat.taken ++ row slots (k * 16 + 1) z.0 z.1) (λ i. (turn i, full i))
    ∙ (ap (λ l. batches_of k c.args.seat.taken ++ row_of l c.gathered-turns.result 0 k) (sym c.take.ensures.others.0)
    ∙ ap (λ (l : List BatchState). batches_of k c.args.seat.taken ++ l) (sym (left_rows (slots_items c.take.new.self.slots) c.gathered-turns.result 0 0 c.len-senders.result k k some_senders (omega arith))))))

pub returns-clause-only : goal.returns-clause-only
returns-clause-only c k past =
    let got = c.gathered-turns.ensures in let v = c.gathered-turns.new.token.me.0 in let slots = slots_items c.close_with-closed.result.slots in let shut = c.close_with-closed.ensures in
    let number : c.seat.inside.token.me.0.made ≡ length c.args.seats.items = ap (λ (t : TakeState). t.senders) c.seat.view_is ∙ sym c.requires.seats.1 in
    let made : v.made ≡ c.seat.inside.token.me.0.made = got.taken.1 in
    let taken : v.list ≡ c.args.seat.taken = got.taken.0 ∙ ap (λ (t : TakeState). t.taken) c.seat.view_is in
    let none : c.len-senders.result ≤ k = omega arith in (
      ap (batches_of k) (sym taken) ∙ closes_only IsFor c.self.inside.nodes.shared.key sender_of (λ _ _ h. h.0) _ v _ slots got.token.1 shut.values.2 k (omega arith),
      left_past (slots_items c.take.new.self.slots) c.gathered-turns.result 0 0 c.len-senders.result k none,
    )

pub invariant_of-result : goal.invariant_of-result
invariant_of-result c =
    let got = c.gathered-turns.ensures in let after = c.gathered-turns.new.token in let v = after.me.0 in let all : List SendState = c.args.seats.items in
    let shut = c.close_with-closed.ensures in let table = c.self.inside.nodes.shared in let seat = c.seat.inside in
    let same = (same_inbox seat.token.table_id table.table_id seat.token.me.0.place c.self.inside.place (ap (λ (t : TakeState). t.inbox) c.seat.view_is ∙ (c.requires.seat ∙ sym c.self.view_is))).0 in
    let wide : table.table_id.slots ≡ seat.token.table_id.slots = ap (λ (z : TableId). z.slots) (sym same) in
    let whole : seat.token.table_id.slots ≡ seat.token.me.0.made * 16 + 1 = c.seat.invariant.all in let few = c.seat.invariant.few in
    let number : seat.token.me.0.made ≡ length all = ap (λ (t : TakeState). t.senders) c.seat.view_is ∙ sym c.requires.seats.1 in
    let len : slots_len c.close_with-closed.result.slots ≡ table.table_id.slots = shut.counts.1 in
    let kept : slots_len c.take.new.self.slots ≡ slots_len c.close_with-closed.result.slots = c.take.ensures.others.2 in
    let known : length v.known ≡ v.made = ap length got.known.0 ∙ (length-map all sent_of ∙ sym (got.taken.1 ∙ number)) in record {
      sized = (omega arith, omega arith, omega arith);
      filled = search rules;
      owned = λ n b h. owned IsFor table.key sender_of (λ _ _ h. h.0) _ v _ (slots_items c.close_with-closed.result.slots) got.token.1 got.known.1 known shut.values.2 n b (ap (λ l. get_elem? l n) (sym c.take.ensures.others.0) ∙ h);
      emptied = search rules;
    }
