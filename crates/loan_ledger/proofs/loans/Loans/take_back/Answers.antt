use Rattle.std.proofs.Common.{ap, arith}
use Rattle.loan_ledger.specs.Accounts.{Account}
use Rattle.loan_ledger.specs.Loans.{LoansState}
use Rattle.loan_ledger.proofs.Trading.{takes_back}
use Rattle.loan_ledger.proofs.loans.Loans.take_back.Goals as goal

pub trade-requires-clause-rule : goal.trade-requires-clause-rule
trade-requires-clause-rule c =
    let parts = ap (λ (l : LoansState). l.parts) c.self.view_is in
    let theirs = c.receipt.invariant in
    takes_back _ _ (omega (arith, c.requires.1)) (λ none. (ap (λ (a : Account). a.lent) theirs, ap (λ (a : Account). a.freed) theirs))
