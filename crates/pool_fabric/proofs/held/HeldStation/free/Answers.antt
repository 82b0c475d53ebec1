use Rattle.std.proofs.Common.{[], ◌∷◌, sym, ap, ◌∙◌}
use Rattle.slot_chain.specs.Buffer.{Buffer}
use Rattle.loan_ledger.specs.Loans.{ReceiptState}
use Rattle.pool_fabric.specs.Pages.{freed_on}
use Rattle.pool_fabric.proofs.Steps.{frees_keeps}
use Rattle.pool_fabric.proofs.held.HeldStation.free.Goals as goal

pub invariant_of-self : goal.invariant_of-self
invariant_of-self g c =
    let parts = c.into_parts-buf.ensures in
    let page = c.self.inside.page in
    frees_keeps _ _ c.into_parts-buf.result.0 c.free.result _ _ _ c.self.invariant
    (c.take_back.ensures ∙ ap (λ (r : ReceiptState). freed_on page r.slots) parts.receipt ∙ ap (λ (b : Buffer). freed_on page (b.slot ∷ [])) (sym parts.same))
    c.and-self-inside.ensures (rw (c.deref_mut-2.ensures.value, c.deref_mut.ensures.value) at c.free.ensures)
