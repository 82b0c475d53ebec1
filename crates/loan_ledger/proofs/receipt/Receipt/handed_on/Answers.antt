use Rattle.std.proofs.Common.{ap, ◌∙◌}
use Rattle.loan_ledger.specs.Accounts.{Account}
use Rattle.loan_ledger.specs.Loans.{ReceiptState}
use Rattle.loan_ledger.specs.declared.token.Token.{Token}
use Rattle.loan_ledger.proofs.Trading.{hands_on}
use Rattle.loan_ledger.proofs.receipt.Receipt.handed_on.Goals as goal

pub trade-requires-clause-rule : goal.trade-requires-clause-rule
trade-requires-clause-rule g c =
    let same = c.another-token.ensures.same in
    let mine = c.self.invariant in
    let new = c.another-token.ensures.account in
    hands_on _ _ _ _ (ap (λ (t : Token). t.account.out) same ∙ ap (λ (r : ReceiptState). r.slots) c.self.view_is ∙ c.requires.last)
    (λ none. (ap (λ (t : Token). t.account.lent) same ∙ ap (λ (a : Account). a.lent) mine, ap (λ (t : Token). t.account.freed) same ∙ ap (λ (a : Account). a.freed) mine))
    (λ none. (ap (λ (a : Account). a.lent) new, ap (λ (a : Account). a.freed) new))
