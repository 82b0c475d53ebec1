use Rattle.std.proofs.Common.{◌<◌, length, refl, sym, ap, ◌∙◌, arith}
use Rattle.std.proofs.lemmas.Option.{slice_get_read}
use Rattle.batch_inbox.specs.declared.place.Place.{Place}
use Rattle.pool_desk.specs.Desks.{DeskState}
use Rattle.pool_fabric.specs.Names.{box_at}
use Rattle.slot_balance.proofs.Posting.{counts_more, counts_none, get_map, takes_more}
use Rattle.pool_fabric.proofs.fabric.Fabric.take_some.Goals as goal

pub take-requires : goal.take-requires
take-requires g c κs =
    let at = c.from-at.result in
    let in_boxes : at < length c.args.self.now.inboxes.items = omega (arith, c.if-at-len.false, c.len.ensures, c.args.self.now.inboxes.ok) in
    let box = c.args.self.now.boxes.each at _ (get_map g.M.Mailbox.id _ at _ (slice_get_read _ _ at _ refl in_boxes c.index-inbox.ensures)) in
    let number = c.from-at.ensures ∙ c.number.ensures.value in
    ((refl, tt), c.loop-taken.invariant.inbox ∙ c.requires.seat ∙ ap (box_at g.J.Naming.names) (sym number) ∙ sym box.0)

pub handle_taken-counts-requires : goal.handle_taken-counts-requires
handle_taken-counts-requires g c κs =
    let at = c.from-at.result in
    let in_boxes : at < length c.args.self.now.inboxes.items = omega (arith, c.if-at-len.false, c.len.ensures, c.args.self.now.inboxes.ok) in
    let box = c.args.self.now.boxes.each at _ (get_map g.M.Mailbox.id _ at _ (slice_get_read _ _ at _ refl in_boxes c.index-inbox.ensures)) in
    let number = c.from-at.ensures ∙ c.number.ensures.value in
    let i = c.loop-taken.invariant in
    let place = c.in-Some.ensures.batch.1 ∙ box.1 in (
      (refl, tt),
      (
        ap (λ (p : Place). p.address) place ∙ number ∙ sym i.number,
        (
          ap (λ (p : Place). p.digits) place ∙ sym (i.digits ∙ c.requires.digits),
          c.in-Some.ensures.seat.0 ∙ (i.inbox ∙ (c.requires.seat ∙ (ap (box_at g.J.Naming.names) (sym number) ∙ sym box.0))),
        ),
      ),
    )

pub loop-taken-init : goal.loop-taken-init
loop-taken-init g c =
    let none = counts_none c.args.desk.now (record { inbox = g.T.Receiver.inbox c.args.seat.now; senders = g.T.Receiver.senders c.args.seat.now; taken = g.T.Receiver.taken c.args.seat.now }) in
    record { taken = none.0; counted = none.1; few = omega arith; number = refl; digits = refl; inbox = refl }

pub returns-then-handled-ge-MOST_HANDLED-clause-takes : goal.returns-then-handled-ge-MOST_HANDLED-clause-takes
returns-then-handled-ge-MOST_HANDLED-clause-takes g c =
    let i = c.loop-taken.invariant in
    let e = c.in-Some.ensures in
    let back = c.handle_taken-counts.ensures.seat in
    takes_more _ _ _ _ _ _ _ c.in-Some.batch i.taken (back.0 ∙ e.seat.0, back.1 ∙ e.seat.1) (back.2 ∙ e.batch.0) c.handle_taken-counts.ensures.parts
    (rw (← i.counted) i.few)

pub loop-taken-preserved : goal.loop-taken-preserved
loop-taken-preserved g c =
    let i = c.loop-taken.invariant in
    let e = c.in-Some.ensures in
    let h = c.handle_taken-counts.ensures.parts in
    let back = c.handle_taken-counts.ensures.seat in
    let more = counts_more _ _ _ _ _ _ _ _ _ c.handle_taken-counts.result c.in-Some.batch i.taken i.counted i.few (back.0 ∙ e.seat.0, back.1 ∙ e.seat.1) (back.2 ∙ e.batch.0) h
    c.handle_taken-counts.ensures.counts (rw c.saturating_add.ensures at c.saturating_add-handled.ensures) c.if-handled-ge-MOST_HANDLED.false in
    record {
      taken = more.0;
      counted = more.1;
      few = c.if-handled-ge-MOST_HANDLED.false;
      number = ap (λ (d : DeskState). d.number) h.same ∙ i.number;
      digits = ap (λ (d : DeskState). d.digits) h.same ∙ i.digits;
      inbox = back.0 ∙ (e.seat.0 ∙ i.inbox);
    }
