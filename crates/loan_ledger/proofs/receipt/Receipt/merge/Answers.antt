use Rattle.std.proofs.Common.{ap, ◌∙◌, ◌++◌}
use Rattle.loan_ledger.specs.Accounts.{Account}
use Rattle.loan_ledger.proofs.Trading.{joins}
use Rattle.loan_ledger.proofs.receipt.Receipt.merge.Goals as goal

pub trade-requires-clause-rule : goal.trade-requires-clause-rule
trade-requires-clause-rule c =
    let mine = c.self.invariant in
    let theirs = c.other.invariant in
    joins _ _ (λ none. (
      ap (λ xs. xs ++ c.other.inside.token.account.lent) (ap (λ (a : Account). a.lent) mine) ∙ ap (λ (a : Account). a.lent) theirs,
      ap (λ xs. xs ++ c.other.inside.token.account.freed) (ap (λ (a : Account). a.freed) mine) ∙ ap (λ (a : Account). a.freed) theirs,
    ))
