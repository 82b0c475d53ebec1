use Rattle.std.proofs.Common.{◌+◌, ◌++◌, map, flat_map, IsPermutation, sym, ap, ◌∙◌, subst}
use Rattle.std.specs.List.{range_with_len}
use Rattle.slot_chain.specs.Slots.{slot_of}
use Rattle.event_floor.specs.Lent.{buffers_lent}
use Rattle.event_floor.specs.headline.ListsSlots.{slots_with}
use Rattle.trace_audit.proofs.OnceOnFloors.{desk_more}
use Rattle.trace_audit.proofs.auditing.slots_on.Goals as goal

pub loop-desk-preserved : goal.loop-desk-preserved
loop-desk-preserved c =
    subst (λ w. IsPermutation (map slot_of (buffers_lent c.args.floor.now.lent) ++ flat_map (slots_with c.args.floor.now) (range_with_len 0 (c.loop-desk.desk + 1))) w)
    (sym (c.in_ok-extend_from_slice.ensures.items ∙ ap (λ xs. c.loop-desk.slots.items ++ xs) c.as_slice.ensures.value))
    (desk_more c.args.floor.now _ c.loop-desk.desk _ _ c.loop-desk.invariant c.in_ok-more.ensures)
