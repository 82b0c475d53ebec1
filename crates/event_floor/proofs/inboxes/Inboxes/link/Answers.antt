use Rattle.std.proofs.Common.{◌≡◌, ◌<◌, sym, subst, refl, length, get_or, set, List}
use Rattle.std.specs.Prelude.{None}
use Rattle.event_floor.specs.Inboxes.{QueuedState, inbox_at, IsUnlinked, NumbersRise, no_batch}
use Rattle.event_floor.specs.Unlinked.{unlinked_of, IsIndexOf}
use Rattle.event_floor.proofs.FloorLaws.{inbox_read}
use Rattle.event_floor.proofs.IndexLaws.{index_without, index_linked, none_waits, linked_at}
use Rattle.event_floor.proofs.inboxes.Inboxes.link.Goals as goal

pub invariant_of-self : goal.invariant_of-self
invariant_of-self c =
    let absent : unlinked_of c.self.inside.unlinked c.args.number ≡ None = sym c.in_default.ensures.value in
    index_without _ c.self.inside.unlinked _ c.args.number c.self.invariant absent c.in_default.ensures.desks c.in_default.ensures.removes

pub returns-in_default : goal.returns-in_default
returns-in_default c =
    let absent : unlinked_of c.self.inside.unlinked c.args.number ≡ None = sym c.in_default.ensures.value in
    rw (← c.self.view_is) (none_waits c.self.inside.inboxes.items c.self.inside.unlinked c.args.number c.self.invariant absent, refl)

pub invariant_of-self-2 : goal.invariant_of-self-2
invariant_of-self-2 c =
    let there : c.in-Some.entry.inbox < length c.self.inside.inboxes.items = (c.self.invariant.waits c.args.number c.in-Some.entry (sym c.in-Some.ensures.value)).0 in
    let same : inbox_at c.self.inside.inboxes.items c.in-Some.entry.inbox ≡ c.index_mut-inbox.result.now = inbox_read _ _ _ there c.index_mut-inbox.ensures.value in
    let found = c.in-Some-find_unlinked.ensures.found in
    subst (λ z. IsIndexOf (set c.self.inside.inboxes.items c.in-Some.entry.inbox z) c.remove.new.self) (sym c.link.ensures)
    (subst (λ (z : List QueuedState). IsIndexOf (set c.self.inside.inboxes.items c.in-Some.entry.inbox (linked_at z c.in-Some-find_unlinked.place)) c.remove.new.self) same
    (index_linked c.self.inside.inboxes.items c.self.inside.unlinked c.remove.new.self c.in-Some.entry.inbox c.in-Some-find_unlinked.place c.args.number c.self.invariant
    (subst (λ z. NumbersRise z) (sym same) c.find_unlinked.ensures.rising) there (subst (λ (z : List QueuedState). c.in-Some-find_unlinked.place < length z) (sym same) found.0)
    (subst (λ (z : List QueuedState). IsUnlinked c.args.number (get_or z c.in-Some-find_unlinked.place no_batch)) (sym same) found.1) c.remove.ensures.desks c.remove.ensures.removes))
