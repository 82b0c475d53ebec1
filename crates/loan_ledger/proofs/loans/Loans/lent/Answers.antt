use Rattle.std.proofs.Common.{ap, arith}
use Rattle.loan_ledger.specs.Accounts.{Account}
use Rattle.loan_ledger.specs.Loans.{LoansState}
use Rattle.loan_ledger.specs.declared.token.Token.{Token}
use Rattle.loan_ledger.proofs.Trading.{lends}
use Rattle.loan_ledger.proofs.loans.Loans.lent.Goals as goal

pub trade-requires-clause-rule : goal.trade-requires-clause-rule
trade-requires-clause-rule g c =
    let parts = ap (λ (l : LoansState). l.parts) c.self.view_is in
    let same = ap (λ (t : Token). t.account.parts) c.another-token.ensures.same in
    let new = c.another-token.ensures.account in
    lends _ _ _ (omega (arith, c.requires.part)) (λ none. (ap (λ (a : Account). a.lent) new, ap (λ (a : Account). a.freed) new))
