-- A token names no thread's key, so it may go to another thread.
use mathlib.Core.List.{List, [], ◌∷◌}
use Prim.Native.Nat.{ℕ, suc}
use base.Shift.{Keyless}
use types.Keyed.{entry_keyless, entries_keyless}
use denote.Param.Send.{IsSend}
use Rattle.atomic_table.specs.Seated.{halved, roster}
use Rattle.loan_ledger.specs.Accounts.{Account, account_coded}
use Rattle.loan_ledger.specs.Tokens.{Inner, token_owns}
use Rattle.loan_ledger.specs.contracts.token.Token as Token

roster_keyless : (γ k : ℕ) (vs : List Account) → Keyless (roster account_coded.code γ k vs)
roster_keyless γ k [] = λ d. entries_keyless halved _ _ _
roster_keyless γ k (v ∷ vs) = (entry_keyless halved _ _ _, roster_keyless γ (suc k) vs)

inner_keyless : (γ : ℕ) → Keyless (Inner γ)
inner_keyless γ = λ vs. (roster_keyless γ 0 vs, λ _. tt)

token_keyless : (γ : ℕ) (v : Account) → Keyless (token_owns γ v)
unfolding token_owns
token_keyless γ v = (inner_keyless γ, λ id. entry_keyless halved _ _ _)

pub token_send : IsSend Token.the_row
token_send = record { owned = λ d vs. ((λ vss. (tt, ((λ uss. (tt, tt)), tt))), token_keyless d.name d.account); leaving = λ k f vs. tt }
