use Rattle.std.proofs.Common.{◌<◌, length, sym, subst, List}
use Rattle.event_floor.specs.Inboxes.{QueuedState}
use Rattle.event_floor.proofs.IndexLaws.{index_after_take}
use Rattle.event_floor.proofs.inboxes.Inboxes.take.Goals as goal

pub invariant_of-self : goal.invariant_of-self
invariant_of-self c =
    let there : c.args.b < length c.self.inside.inboxes.items = subst (λ (z : List (List QueuedState)). c.args.b < length z) (sym c.self.view_is) c.requires in
    index_after_take _ _ _ _ _ c.take.result c.self.invariant there c.index_mut.ensures.value c.take.ensures
