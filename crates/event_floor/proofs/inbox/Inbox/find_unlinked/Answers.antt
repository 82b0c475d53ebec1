use Rattle.std.proofs.Common.{◌<◌, length, get_or, subst, arith}
use Rattle.event_floor.specs.Inboxes.{QueuedState, IsUnlinked}
use Rattle.event_floor.proofs.RiseLaws.{none_unlinked, not_unlinked}
use Rattle.event_floor.proofs.inbox.Inbox.find_unlinked.Goals.{else-place-len-via-then-place-len+else-is_unlinked, else-place-len-via-else-place-len}
use Rattle.event_floor.proofs.inbox.Inbox.find_unlinked.Goals as goal

pub returns-clause-found : goal.returns-clause-found
returns-clause-found c =
    let i = c.place_of-place.result in
    let ps = c.self.inside.batches.items in
    let other : (d : QueuedState) → i < length ps → IsUnlinked c.args.number (get_or ps i d) → ⊥ = elim c.else-place-len.branch [
      | else-place-len-via-then-place-len+else-is_unlinked w ↦ not_unlinked ps c.args.number i w.index.result.now w.is_unlinked.result w.is_unlinked.ensures w.if-is_unlinked.false w.index.ensures
      | else-place-len-via-else-place-len w ↦ λ d l. absurd (omega (arith, l, w.if-place-len.false, c.len.ensures, c.self.inside.batches.ok))
    ] in
    none_unlinked c.args.self.now c.args.number i c.place_of-place.ensures.rising c.place_of-place.ensures.below c.place_of-place.ensures.above
    (subst (λ z. (d : QueuedState) → i < length z → IsUnlinked c.args.number (get_or z i d) → ⊥) c.self.view_is other)
