-- `open` makes the first account and the invariant round it. Assumes `Logic`.
use Rattle.atomic_table.proofs.Names.{◌≡◌, ℕ, [], ◌∷◌, refl, Val, SProp, emp, ‵, raw, ◌⊛◌, ◌$◌, ◌∵◌, !, qed, by, keep, split, fjoin, some, later, await, pick, use0, no_more, and_then, returns, enter, alloc_all, pass_all, free_all, look_at, get, sets, agg, tables, owns, types_at, nothing, alive, Stays, walk_of, fact, fact_i}
use Rattle.atomic_table.proofs.Walks.{proved, leaves}
use Rattle.atomic_table.proofs.Fields.{token_val}
use Rattle.loan_ledger.specs.Accounts.{account, whole}
use Rattle.loan_ledger.specs.Tokens.{token_owns}
use Rattle.loan_ledger.specs.contracts.token.Token as Token
use Rattle.loan_ledger.proofs.Made.{Bare, bare_made}
use Rattle.loan_ledger.proofs.Steps as steps
use Rattle.loan_ledger.specs.contracts.token.Token.open.{ended, clauses}
use Rattle.loan_ledger.specs.contracts.token.Token.open.Key.{name as #self}
use Rattle.loan_ledger.proofs.token.Token.open.Statement.{statement}
use Rattle.loan_ledger.proofs.token.Token.open.Code as code

pub open_spec : {M : Type 1} → statement M
open_spec 𝓤 𝓛 𝓜 𝓡 wired =
    let H = 𝓛.H in let 𝓣 = tables 𝓤 H 𝓜 𝓡 𝓡.env in let En = ended in let c = clauses 𝓛 𝓜.mem 𝓡.returns in
    let hs : Stays En.signature.params En.kept = tt in
    proved 𝓛 En hs c 𝓜 𝓡 tt #self code.function (code.unfolded 𝓤 H 𝓜 𝓡 wired) (λ κs. tt) (λ κs. tt) (λ κs qs bounds a gh are.
    let y : (walk_of 𝓛 En hs c).Ghost = ((κs, qs, bounds, a, tt), gh) in let Post : Val → SProp 𝓤 = (walk_of 𝓛 En hs c).post y in
    qed 𝓛 ((raw (alive 𝓛 En.signature κs qs) ⊛ ‵ (owns (types_at En.signature.params κs) a y.0.4)) ∷ raw ((c κs a).requires gh) ∷ []) ∵
    split ! $ keep ! (0 ∷ []) $
    enter ! 𝓣.C 𝓣.Λ code.function [] Post $ alloc_all ! (λ l. pass_all ! refl tt $
    use0 𝓛 (later (some (λ (γ : ℕ). ‵ (token_owns γ (account whole [] [] []))))) (steps.begins 𝓛) $ await ! tt $ pick ! (λ γ.
    let r : Token.the_row.Denot = record { of = record {}; name = γ; account = account whole [] [] [] } in
    let Told : Type 0 = r.account ≡ account whole [] [] [] in
    use0 𝓛 (‵ (Bare.own_val (tt, tt) (token_val ∷ []))) (bare_made 𝓛) $ fjoin ! $
    sets ! (agg ! (no_more !)) refl (tt, tt) $ sets ! (agg ! (and_then ! (get ! refl) (no_more !))) refl (tt, (tt, tt)) $
    use0 𝓛 (raw (fact 𝓤 Told)) (fact_i 𝓤 Told (emp 𝓤) refl) $ nothing ! $
    returns ! (look_at ! 0 refl) $ free_all ! refl $ keep ! (3 ∷ 0 ∷ 2 ∷ 1 ∷ []) $ by ! (leaves 𝓛 En hs c y token_val r tt tt))))
