-- `another` puts one more account under the invariant. Assumes `Logic`.
use Rattle.atomic_table.proofs.Names.{◌≡◌, ℕ, List, [], ◌∷◌, refl, named, Val, vptr, SProp, emp, ftrue, flft, ‵, raw, ◌⊛◌, later, ◌$◌, ◌∵◌, !, qed, by, move, keep, split, join, fsplit, fsplit3, fjoin, fjoin3, use0, use1, feq_i, await, no_more, and_then, returns, enter, alloc_all, pass_all, free_all, look_at, get, sets, agg, tables, RattleType, owns, types_at, plain, nothing, Stays, walk_of, fact, fact_i, mut_vals, mut_Tells, opens, closes, stay_ref, Goes-ref}
use Rattle.atomic_table.proofs.Walks.{proved, leaves}
use Rattle.atomic_table.proofs.Fields.{token_val}
use Rattle.loan_ledger.specs.Accounts.{nothing as at_nothing}
use Rattle.loan_ledger.specs.Tokens.{token_owns}
use Rattle.loan_ledger.specs.contracts.token.Token as Token
use Rattle.loan_ledger.proofs.Made.{Bare, bare_made}
use Rattle.loan_ledger.proofs.Steps as steps
use Rattle.loan_ledger.specs.contracts.token.Token.another.{ended, clauses}
use Rattle.loan_ledger.specs.contracts.token.Token.another.Key.{name as #self}
use Rattle.loan_ledger.proofs.token.Token.another.Statement.{statement}
use Rattle.loan_ledger.proofs.token.Token.another.Code as code

pub another_spec : {M : Type 1} → statement M
another_spec 𝓤 𝓛 𝓜 𝓡 wired =
    let H = 𝓛.H in let 𝓣 = tables 𝓤 H 𝓜 𝓡 𝓡.env in let En = ended in let c = clauses 𝓛 𝓜.mem 𝓡.returns in
    let Sr : RattleType = Token.the_row in let me = plain (λ _. Sr) in
    let hs : Stays En.signature.params En.kept = (stay_ref (0 ∷ []) tt me, tt) in
    proved 𝓛 En hs c 𝓜 𝓡 (Goes-ref 𝓛 1 0 tt me, tt) #self code.function (code.unfolded 𝓤 H 𝓜 𝓡 wired)
    (λ κs. (mut_vals, tt)) (λ κs. (mut_Tells (named 0) κs.0 Sr, tt)) (λ κs qs bounds a gh are.
    let b : ℕ = a.0.ref_ptr.0 in let o : ℕ = a.0.ref_ptr.1 in let v : Sr.Denot = a.0.now in
    let y : (walk_of 𝓛 En hs c).Ghost = ((κs, qs, bounds, a, (vptr b o ∷ [], tt)), gh) in let Post : Val → SProp 𝓤 = (walk_of 𝓛 En hs c).post y in
    qed 𝓛 (((‵ (flft κs.0 qs.0) ⊛ ‵ ftrue) ⊛ ‵ (owns (types_at En.signature.params κs) a y.0.4)) ∷ raw ((c κs a).requires gh) ∷ []) ∵
    keep ! (0 ∷ []) $ split ! $ split ! $ move ! (2 ∷ []) $ fsplit ! $ fsplit3 ! $ keep ! (1 ∷ 2 ∷ 4 ∷ 5 ∷ []) $
    enter ! 𝓣.C 𝓣.Λ code.function (vptr b o ∷ []) Post $ alloc_all ! (λ l. pass_all ! refl ((tt, tt), tt) $
    opens ! tt Sr b o (λ ts. move ! (1 ∷ []) $ fsplit ! $ move ! (1 ∷ []) $
    use1 𝓛 (later (‵ (token_owns v.name v.account) ⊛ ‵ (token_owns v.name at_nothing))) (steps.grows 𝓛 v.name v.account) $
    await ! tt $ split ! $ move ! (2 ∷ 0 ∷ []) $ fjoin ! $ move ! (2 ∷ 0 ∷ 3 ∷ 4 ∷ 5 ∷ []) $ closes ! tt Sr v ts b o $
    sets ! (agg ! (no_more !)) refl (tt, tt) $ sets ! (agg ! (and_then ! (get ! refl) (no_more !))) refl (tt, (tt, tt)) $
    feq_i ! (List Val) (vptr b o ∷ []) (vptr b o ∷ []) refl $ fjoin3 ! $ nothing ! $ move ! (1 ∷ 0 ∷ []) $ fjoin ! $
    move ! (1 ∷ 3 ∷ []) $ join ! $ move ! (2 ∷ []) $ use0 𝓛 (‵ (Bare.own_val (tt, tt) (token_val ∷ []))) (bare_made 𝓛) $ fjoin ! $
    let r : Sr.Denot = record { of = record {}; name = v.name; account = at_nothing } in
    use0 𝓛 (raw (fact 𝓤 (r.account ≡ at_nothing))) (fact_i 𝓤 (r.account ≡ at_nothing) (emp 𝓤) refl) $
    use0 𝓛 (raw (fact 𝓤 (r.name ≡ v.name))) (fact_i 𝓤 (r.name ≡ v.name) (emp 𝓤) refl) $ join ! $
    use0 𝓛 (raw (fact 𝓤 (v ≡ v))) (fact_i 𝓤 (v ≡ v) (emp 𝓤) refl) $ join ! $
    returns ! (look_at ! 0 refl) $ free_all ! refl $ keep ! (2 ∷ 3 ∷ 1 ∷ 0 ∷ []) $ by ! (leaves 𝓛 En hs c y token_val r (v, tt) (tt, tt)))))
