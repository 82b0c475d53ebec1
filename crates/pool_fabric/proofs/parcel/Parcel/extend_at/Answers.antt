use Rattle.std.proofs.Common.{◌^◌, ◌<◌, List, map, sym, ap, ◌∙◌, subst}
use Rattle.region_cut.specs.declared.slot.Slot.{Slot}
use Rattle.slot_chain.specs.Parcels.{ParcelState}
use Rattle.slot_chain.specs.Slots.{slot_of}
use Rattle.loan_ledger.specs.Loans.{ReceiptState}
use Rattle.pool_fabric.proofs.Packed.{same_slot, same_slots}
use Rattle.pool_fabric.proofs.parcel.Parcel.extend_at.Goals as goal

pub invariant_of-self : goal.invariant_of-self
invariant_of-self g c =
    let e = c.extend_at.ensures in
    let receipt : List Slot → ReceiptState = λ slots. record { ledger = g.J.Naming.names.loans; slots = slots } in (
      subst (λ n. n < 2 ^ g.J.Naming.names.digits.bits) (sym (ap (λ (p : ParcelState). p.owner) e.same)) c.self.invariant.0,
      c.self.invariant.1 ∙ ap receipt (sym (ap (λ (p : ParcelState). map slot_of p.items) e.same ∙ same_slots _ _ e.before e.after e.there (same_slot _ _ _ _ e.edited))),
    )
