-- What a token owns: the invariant that holds the accounts of all tokens of its ledger, and its own account.
use Rattle.std.specs.Prelude.{ℕ, List}
use base.Share.{three_quarters}
use base.Fml.{Fml, fsep, fex, finv}
use Rattle.atomic_table.specs.Seated.{fact, seen, roster}
use Rattle.loan_ledger.specs.Accounts.{Account, account_coded, IsKept}

-- the accounts of all tokens, which keep the rule
abbrev pub kept : ℕ → List Account → Fml
kept name views = fsep (roster account_coded.code name 0 views) (fact (IsKept views))

abbrev pub Inner : ℕ → Fml
Inner name = fex (List Account) (kept name)

-- one token's account
abbrev pub owned : ℕ → Account → ℕ → Fml
owned name v id = seen account_coded.code name id three_quarters v

unfoldable pub token_owns : ℕ → Account → Fml
token_owns name v = fsep (finv (Inner name)) (fex ℕ (owned name v))
