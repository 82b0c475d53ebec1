use Rattle.std.proofs.Common.{map, sym, ap, ◌∙◌}
use Rattle.slot_chain.specs.Parcels.{ParcelState}
use Rattle.slot_chain.specs.Slots.{slot_of}
use Rattle.loan_ledger.specs.Loans.{ReceiptState}
use Rattle.pool_fabric.specs.Pages.{freed_on}
use Rattle.pool_fabric.proofs.Steps.{frees_all_keeps}
use Rattle.pool_fabric.proofs.held.HeldStation.free_all.Goals as goal

pub invariant_of-self : goal.invariant_of-self
invariant_of-self g c =
    let parts = c.into_parts-parcel.ensures in
    let page = c.self.inside.page in
    frees_all_keeps _ _ c.into_parts-parcel.result.0 c.free_all.result _ _ _ c.self.invariant
    (c.take_back.ensures ∙ ap (λ (r : ReceiptState). freed_on page r.slots) parts.receipt ∙ ap (λ (p : ParcelState). freed_on page (map slot_of p.items)) (sym parts.same))
    (rw c.buffers.ensures at c.and_all-self-inside.ensures) (rw (c.deref_mut-2.ensures.value, c.deref_mut.ensures.value) at c.free_all.ensures)
