use Rattle.std.proofs.Common.{◌≡◌, ◌<◌, ◌++◌, ◌∷◌, [], ◌∙◌, ap, sym, subst, refl, length, set, List, All, ℕ}
use Rattle.std.proofs.lemmas.List.{set-get_or}
use Rattle.event_floor.specs.Inboxes.{QueuedState, inbox_at, sent_as}
use Rattle.event_floor.specs.Unlinked.{IsIndexOf}
use Rattle.event_floor.proofs.FloorLaws.{inbox_read}
use Rattle.event_floor.proofs.IndexLaws.{index_sent, index_refused, absent_above}
use Rattle.event_floor.proofs.inboxes.Inboxes.send.Goals as goal

pub send-requires-clause-later : goal.send-requires-clause-later
send-requires-clause-later c =
    let there : c.args.t < length c.self.inside.inboxes.items = subst (λ (z : List (List QueuedState)). c.args.t < length z) (sym c.self.view_is) c.requires.there in
    let same : inbox_at c.self.inside.inboxes.items c.args.t ≡ c.index_mut.result.now = inbox_read _ _ _ there c.index_mut.ensures.value in
    let later = subst (λ (z : List (List QueuedState)). (b : ℕ) → b < length z → All (λ (p : QueuedState). p.batch.number < c.args.number) (inbox_at z b)) (sym c.self.view_is) c.requires.later in
    subst (λ z. All (λ (p : QueuedState). p.batch.number < c.args.number) z) same (later c.args.t there)

pub invariant_of-self-in-Ok : goal.invariant_of-self-in-Ok
invariant_of-self-in-Ok c =
    let there : c.args.t < length c.self.inside.inboxes.items = subst (λ (z : List (List QueuedState)). c.args.t < length z) (sym c.self.view_is) c.requires.there in
    let same : inbox_at c.self.inside.inboxes.items c.args.t ≡ c.index_mut.result.now = inbox_read _ _ _ there c.index_mut.ensures.value in
    let later = subst (λ (z : List (List QueuedState)). (b : ℕ) → b < length z → All (λ (p : QueuedState). p.batch.number < c.args.number) (inbox_at z b)) (sym c.self.view_is) c.requires.later in
    let absent = absent_above _ c.self.inside.unlinked c.args.number _ c.self.invariant later refl in
    let s = c.in-Ok.ensures.sends in
    let p = sent_as c.args.number s.batch in
    subst (λ z. IsIndexOf (set c.self.inside.inboxes.items c.args.t z) c.add.new.self) (ap (λ z. z ++ p ∷ []) same ∙ sym s.queued)
    (index_sent c.self.inside.inboxes.items c.self.inside.unlinked c.add.new.self c.args.t c.args.number c.number.result p c.self.invariant there refl
    (s.gives.sender ∙ sym c.number.ensures.value) refl absent c.add.ensures.desks c.in_ok-add.ensures.adds)

pub invariant_of-self-in-Err : goal.invariant_of-self-in-Err
invariant_of-self-in-Err c =
    let there : c.args.t < length c.self.inside.inboxes.items = subst (λ (z : List (List QueuedState)). c.args.t < length z) (sym c.self.view_is) c.requires.there in
    let same : inbox_at c.self.inside.inboxes.items c.args.t ≡ c.index_mut.result.now = inbox_read _ _ _ there c.index_mut.ensures.value in
    let later = subst (λ (z : List (List QueuedState)). (b : ℕ) → b < length z → All (λ (p : QueuedState). p.batch.number < c.args.number) (inbox_at z b)) (sym c.self.view_is) c.requires.later in
    let absent = absent_above _ c.self.inside.unlinked c.args.number _ c.self.invariant later refl in
    let stays : set c.self.inside.inboxes.items c.args.t c.send.new.self ≡ c.self.inside.inboxes.items =
    ap (set c.self.inside.inboxes.items c.args.t) (c.in-Err.ensures.refused ∙ sym same) ∙ set-get_or c.self.inside.inboxes.items c.args.t [] in
    subst (λ z. IsIndexOf z c.remove.new.self) (sym stays)
    (index_refused _ c.self.inside.unlinked c.add.new.self _ c.args.number _ c.self.invariant absent c.add.ensures.desks c.remove.ensures.desks
    c.in_ok-add.ensures.adds c.remove.ensures.removes)
