use Rattle.std.proofs.Common.{refl, sym, ap, ◌∙◌, arith}
use Rattle.batch_inbox.specs.States.{TakeState}
use Rattle.batch_inbox.specs.declared.place.Place.{Place}
use Rattle.pool_desk.specs.Desks.{DeskState}
use Rattle.slot_balance.proofs.Posting.{counts_more, counts_none, takes_more}
use Rattle.seated_desk.proofs.moving.take_some.Goals as goal

pub handle_and_empty-empty-requires-clause-address : goal.handle_and_empty-empty-requires-clause-address
handle_and_empty-empty-requires-clause-address c = ap (λ (p : Place). p.address) (c.in-Some.ensures.batch.1 ∙ c.requires.inbox) ∙ sym c.loop-taken.invariant.number

pub handle_and_empty-empty-requires-clause-digits : goal.handle_and_empty-empty-requires-clause-digits
handle_and_empty-empty-requires-clause-digits c = ap (λ (p : Place). p.digits) (c.in-Some.ensures.batch.1 ∙ c.requires.inbox) ∙ sym c.loop-taken.invariant.digits

pub loop-taken-init : goal.loop-taken-init
loop-taken-init c =
    let none = counts_none c.args.desk.now c.args.seat.now in
    record { taken = none.0; counted = none.1; few = omega arith; number = refl; digits = refl; inbox = refl }

pub returns-then-handled-ge-MOST_HANDLED-clause-takes : goal.returns-then-handled-ge-MOST_HANDLED-clause-takes
returns-then-handled-ge-MOST_HANDLED-clause-takes c =
    let i = c.loop-taken.invariant in
    let e = c.in-Some.ensures in
    let back = c.return_empty.ensures in
    takes_more _ _ _ _ _ _ _ c.in-Some.batch i.taken (ap (λ (t : TakeState). t.inbox) back ∙ e.seat.0, ap (λ (t : TakeState). t.senders) back ∙ e.seat.1) (ap (λ (t : TakeState). t.taken) back ∙ e.batch.0)
    c.handle_and_empty-empty.ensures.parts (rw (← i.counted) i.few)

pub loop-taken-preserved : goal.loop-taken-preserved
loop-taken-preserved c =
    let i = c.loop-taken.invariant in
    let e = c.in-Some.ensures in
    let back = c.return_empty.ensures in
    let h = c.handle_and_empty-empty.ensures.parts in
    let more = counts_more _ _ _ _ _ _ _ _ _ c.handle_and_empty-empty.result.0 c.in-Some.batch i.taken i.counted i.few (ap (λ (t : TakeState). t.inbox) back ∙ e.seat.0, ap (λ (t : TakeState). t.senders) back ∙ e.seat.1)
    (ap (λ (t : TakeState). t.taken) back ∙ e.batch.0) h c.handle_and_empty-empty.ensures.counts (rw c.saturating_add.ensures at c.saturating_add-handled.ensures) c.if-handled-ge-MOST_HANDLED.false in
    record {
      taken = more.0;
      counted = more.1;
      few = c.if-handled-ge-MOST_HANDLED.false;
      number = ap (λ (d : DeskState). d.number) h.same ∙ i.number;
      digits = ap (λ (d : DeskState). d.digits) h.same ∙ i.digits;
      inbox = ap (λ (t : TakeState). t.inbox) back ∙ e.seat.0 ∙ i.inbox;
    }
