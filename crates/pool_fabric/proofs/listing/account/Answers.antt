use Rattle.std.proofs.Common.{List, ◌++◌, sym, subst}
use Rattle.region_cut.specs.declared.slot.Slot.{Slot}
use Rattle.slot_chain.specs.Slots.{AddsSlots}
use Rattle.pool_fabric.specs.Audited.{idle_slots, held_slots, batch_slots, listed}
use Rattle.pool_fabric.proofs.Accounting.{audited}
use Rattle.pool_fabric.proofs.listing.account.Goals as goal

pub returns-in-Ok : goal.returns-in-Ok
returns-in-Ok c =
    let all : List Slot = listed idle_slots c.args.idle.now ++ listed held_slots c.args.held.now ++ listed batch_slots c.args.batches.now in
    audited all c.deref.result.now c.args.drawn.now c.audit.result
    (subst (λ l. AddsSlots all l c.deref.result.now) c.new-slots.ensures.items (subst (λ l. AddsSlots all c.new-slots.result.items l) (sym c.deref.ensures.value) c.in-Ok.ensures))
    c.audit.ensures.ok c.audit.ensures.err
