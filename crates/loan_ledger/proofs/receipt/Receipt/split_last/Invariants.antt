use Rattle.std.proofs.Common.{◌-◌, length, take}
use Rattle.loan_ledger.proofs.receipt.Receipt.split_last.Given as goal

abbrev pub ghosts-handed_on : goal.ghosts-handed_on
ghosts-handed_on a = record { slot = a.slot; kept = take (length a.self.now.slots - 1) a.self.now.slots }
