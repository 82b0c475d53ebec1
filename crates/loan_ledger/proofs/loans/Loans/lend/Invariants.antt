use Rattle.std.proofs.Common.{[]}
use Rattle.loan_ledger.proofs.loans.Loans.lend.Given as goal

abbrev pub ghosts-lent : goal.ghosts-lent
ghosts-lent a = record { slot = a.slot; kept = [] }
