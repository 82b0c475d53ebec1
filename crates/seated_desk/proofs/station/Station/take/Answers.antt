use Rattle.std.proofs.Common.{◌≡◌, ℕ, List, Some, refl, sym, ap, ◌∙◌}
use Rattle.std.specs.Arc.{arc_value}
use Rattle.std.specs.Prelude.{slice_get}
use Rattle.digit_route.specs.Digits.{Scheme}
use Rattle.batch_inbox.specs.States.{InboxId, TakeState}
use Rattle.slot_balance.proofs.Balanced.{takes_balances}
use Rattle.slot_balance.proofs.Posting.{handled_stays}
use Rattle.seated_desk.proofs.Claimed.{noted_same}
use Rattle.seated_desk.proofs.Moved.{takes_nothing}
use Rattle.seated_desk.proofs.Seated.{before_end, read_inbox, seated_same}
use Rattle.seated_desk.specs.declared.station.Station.{Station}
use Rattle.seated_desk.proofs.station.Station.take.Goals as goal

-- the desk's own inbox, where it is read
own_at : (s : Station) (at : ℕ) (boxes : List InboxId) → at ≡ s.desk.number → boxes ≡ (arc_value s.inboxes).items → slice_get boxes at ≡ Some s.take.inbox
own_at s at boxes number same = ap (λ l. slice_get l at) same ∙ ap (slice_get (arc_value s.inboxes).items) number ∙ s.seated.own

pub bounds-inboxes-at : goal.bounds-inboxes-at
bounds-inboxes-at c =
    let own = own_at c.args.self.now c.from-at.result c.as_slice-inboxes.result.now (c.from-at.ensures ∙ c.number.ensures.value) (c.as_slice-inboxes.ensures.value ∙ ap (λ v. v.items) c.deref.ensures) in
    before_end _ _ _ own

pub take_some-taken-requires-clause-inbox : goal.take_some-taken-requires-clause-inbox
take_some-taken-requires-clause-inbox c =
    let own = own_at c.args.self.now c.from-at.result c.as_slice-inboxes.result.now (c.from-at.ensures ∙ c.number.ensures.value) (c.as_slice-inboxes.ensures.value ∙ ap (λ v. v.items) c.deref.ensures) in
    ap (λ (i : InboxId). i.place) (sym (read_inbox c.as_slice-inboxes.result.now c.from-at.result _ _ own c.index-inboxes-at.is)) ∙ c.args.self.now.seated.place

pub take_some-taken-requires-clause-seat : goal.take_some-taken-requires-clause-seat
take_some-taken-requires-clause-seat c =
    let own = own_at c.args.self.now c.from-at.result c.as_slice-inboxes.result.now (c.from-at.ensures ∙ c.number.ensures.value) (c.as_slice-inboxes.ensures.value ∙ ap (λ v. v.items) c.deref.ensures) in
    read_inbox c.as_slice-inboxes.result.now c.from-at.result _ _ own c.index-inboxes-at.is

pub invariant_of-self-clause-noted : goal.invariant_of-self-clause-noted
invariant_of-self-clause-noted c =
    let t = c.take_some-taken.ensures.takes in
    noted_same _ _ _ (handled_stays _ t.batches _ t.handled).drawn c.args.self.now.noted

pub invariant_of-self-clause-bits : goal.invariant_of-self-clause-bits
invariant_of-self-clause-bits c =
    let t = c.take_some-taken.ensures.takes in
    ap (λ (s : Scheme). s.bits) (handled_stays _ t.batches _ t.handled).digits ∙ c.args.self.now.bits

pub invariant_of-self-clause-seated : goal.invariant_of-self-clause-seated
invariant_of-self-clause-seated c =
    let t = c.take_some-taken.ensures.takes in
    let s = handled_stays _ t.batches _ t.handled in
    seated_same _ _ _ _ _ _ _ _ s.digits s.number (ap (λ (x : TakeState). x.inbox) t.taken) c.args.self.now.seated

pub invariant_of-self-clause-balance : goal.invariant_of-self-clause-balance
invariant_of-self-clause-balance c =
    let s = c.args.self.now in
    takes_balances s.desk _ s.take s.lent s.freed _ _ _ s.balance c.take_some-taken.ensures.takes

pub returns-clause-none : goal.returns-clause-none
returns-clause-none c = takes_nothing _ _ _ _ _ c.take_some-taken.ensures.takes

pub returns-clause-keeps : goal.returns-clause-keeps
returns-clause-keeps c =
    let t = c.take_some-taken.ensures.takes in
    let s = handled_stays _ t.batches _ t.handled in
    record { desk = record { number = s.number; digits = s.digits; drawn = s.drawn }; pool = refl; lent = refl; freed = refl }
