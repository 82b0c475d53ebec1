-- What contracts see of a page of loans and of a receipt.
use Rattle.std.specs.Prelude.{ℕ, List}
use Rattle.region_cut.specs.declared.slot.Slot.{Slot}

-- of which ledger, how many parts of the right to know the whole, the slots that were lent and those that were taken back
pub record LoansState : Type 0 where
  pub ledger : ℕ
  pub parts : ℕ
  pub lent : List Slot
  pub freed : List Slot

-- of which ledger, and the slots that it stands for
pub record ReceiptState : Type 0 where
  pub ledger : ℕ
  pub slots : List Slot
