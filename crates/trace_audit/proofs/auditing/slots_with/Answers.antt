use Rattle.std.proofs.Common.{◌++◌, IsPermutation, sym, ap, ap₂, ◌∙◌, subst}
use Rattle.event_floor.specs.headline.ListsSlots.{slots_with}
use Rattle.trace_audit.proofs.OnceOnFloors.{three_lists}
use Rattle.trace_audit.proofs.auditing.slots_with.Goals as goal

pub returns : goal.returns
returns c =
    subst (λ w. IsPermutation (slots_with c.args.floor.now c.args.desk) w)
    (sym (c.in_ok-extend_from_slice-2.ensures.items ∙ ap₂ (λ xs ys. xs ++ ys) (c.in_ok-extend_from_slice.ensures.items ∙ ap (λ xs. c.in_ok-slots.slots.items ++ xs) c.as_slice.ensures.value) c.as_slice-2.ensures.value))
    (three_lists _ _ _ _ _ _ c.in_ok-slots.ensures c.in_ok-cached.ensures c.in_ok-queued.ensures)
