use Rattle.std.proofs.Common.{ap, arith}
use Rattle.loan_ledger.specs.Loans.{LoansState}
use Rattle.loan_ledger.proofs.Trading.{joins}
use Rattle.loan_ledger.proofs.loans.Loans.join.Goals as goal

pub trade-requires-clause-rule : goal.trade-requires-clause-rule
trade-requires-clause-rule c = let parts = ap (λ (l : LoansState). l.parts) c.self.view_is in joins _ _ (λ none. absurd (omega (arith, c.requires.1)))
