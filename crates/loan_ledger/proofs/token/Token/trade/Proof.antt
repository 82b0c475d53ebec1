-- `trade` sets the accounts of two tokens in one opening of the invariant. Assumes `Logic`.
use Rattle.atomic_table.proofs.Names.{◌≡◌, ℕ, List, [], ◌∷◌, refl, a_type, dcons, dnil, named, Val, vunit, vptr, inst_fn, SProp, emp, ftrue, fsep, flft, ‵, raw, ◌⊛◌, later, given, ◌$◌, ◌∵◌, !, qed, by, move, keep, drop, split, join, fsplit, fsplit3, fjoin, fjoin3, learn, use0, use2, feq_i, rewrite, await, of_opd, unit_lit, returns, enter, alloc_all, pass_all, free_all, look_at, sets, tables, RattleType, owns, types_at, plain, nothing, bounded, Stays, walk_of, fact, fact_i, mut_vals, mut_Tells, opens, closes, stay_ref, Goes-ref}
use Rattle.atomic_table.proofs.Walks.{proved, leaves}
use Rattle.loan_ledger.specs.Accounts.{Account, Trades, Learns}
use Rattle.loan_ledger.specs.Tokens.{token_owns}
use Rattle.loan_ledger.specs.contracts.token.Token as Token
use Rattle.loan_ledger.proofs.Steps as steps
use Rattle.loan_ledger.specs.contracts.token.Token.trade.{ended, clauses}
use Rattle.loan_ledger.specs.contracts.token.Token.trade.Key.{name as #self}
use Rattle.loan_ledger.proofs.token.Token.trade.Statement.{statement}
use Rattle.loan_ledger.proofs.token.Token.trade.Code as code

pub trade_spec : {M : Type 1} → statement M
trade_spec 𝓤 𝓛 𝓜 𝓡 wired Y laws g d met =
    let H = 𝓛.H in let 𝓣 = tables 𝓤 H 𝓜 𝓡 𝓡.env in let En = ended Y g d in let c = clauses Y g d 𝓛 𝓜.mem 𝓡.returns in
    let inst = bounded (a_type ∷ []) (Y, tt) (dcons d dnil) in let fn = inst_fn inst code.function in
    let Sr : RattleType = Token.the_row in let me = plain (λ _. Sr) in
    let hs : Stays En.signature.params En.kept = (stay_ref (0 ∷ []) tt me, (stay_ref (1 ∷ []) tt me, tt)) in
    proved 𝓛 En hs c 𝓜 𝓡 (Goes-ref 𝓛 3 0 tt me, (Goes-ref 𝓛 3 1 tt me, tt)) (#self inst) fn (code.unfolded 𝓤 H 𝓜 𝓡 wired (Y, tt) d)
    (λ κs. (mut_vals, (mut_vals, tt))) (λ κs. (mut_Tells (named 0) κs.0 Sr, (mut_Tells (named 1) κs.1.0 Sr, tt))) (λ κs qs bounds a gh are.
    let b : ℕ = a.0.ref_ptr.0 in let o : ℕ = a.0.ref_ptr.1 in let v : Sr.Denot = a.0.now in
    let b' : ℕ = a.1.0.ref_ptr.0 in let o' : ℕ = a.1.0.ref_ptr.1 in let w : Sr.Denot = a.1.0.now in
    let va : Account = g.mine v.account w.account in let wa : Account = g.theirs v.account w.account in
    let v' : Sr.Denot = record { of = v.of; name = v.name; account = va } in let w' : Sr.Denot = record { of = w.of; name = v.name; account = wa } in
    let y : (walk_of 𝓛 En hs c).Ghost = ((κs, qs, bounds, a, (vptr b o ∷ [], (vptr b' o' ∷ [], tt))), gh) in let Post : Val → SProp 𝓤 = (walk_of 𝓛 En hs c).post y in
    qed 𝓛 (((‵ (flft κs.0 qs.0) ⊛ ‵ (flft κs.1.0 qs.1.0) ⊛ ‵ (fsep (flft κs.1.1.0 qs.1.1.0) ftrue)) ⊛ ‵ (owns (types_at En.signature.params κs) a y.0.4))
    ∷ raw (fact 𝓤 _) ∷ given (w.name ≡ v.name) (‵ ftrue) ∷ given (Trades v.account w.account va wa) (‵ ftrue) ∷ []) ∵
    keep ! (2 ∷ 3 ∷ 0 ∷ []) $ learn ! (λ same. drop ! $ learn ! (λ rule. drop ! $
    split ! $ split ! $ move ! (1 ∷ []) $ split ! $ move ! (3 ∷ []) $ fsplit ! $ fsplit3 ! $ drop ! $ move ! (2 ∷ []) $ fsplit ! $ fsplit3 ! $ drop ! $
    keep ! (3 ∷ 4 ∷ 7 ∷ 0 ∷ 1 ∷ 5 ∷ 6 ∷ []) $
    enter ! 𝓣.C 𝓣.Λ fn (vptr b o ∷ vptr b' o' ∷ []) Post $ alloc_all ! (λ l. pass_all ! refl ((tt, tt), ((tt, tt), tt)) $
    opens ! tt Sr b o (λ ts. move ! (5 ∷ 6 ∷ 7 ∷ []) $ opens ! tt Sr b' o' (λ us. move ! (1 ∷ []) $ fsplit ! $ rewrite ! 1 (λ (n : ℕ). ‵ (token_owns n w.account)) same refl $ move ! (7 ∷ []) $ fsplit ! $ move ! (1 ∷ 3 ∷ []) $
    use2 𝓛 (later (given (Learns v.account) (‵ (token_owns v.name va) ⊛ ‵ (token_owns v.name wa)))) (steps.trades 𝓛 v.name v.account w.account va wa rule) $
    await ! tt $ learn ! (λ learned. split ! $
    move ! (2 ∷ 0 ∷ []) $ fjoin ! $ move ! (2 ∷ 1 ∷ []) $ fjoin ! $ move ! (2 ∷ 0 ∷ 3 ∷ 4 ∷ 5 ∷ []) $ closes ! tt Sr w' us b' o' $
    move ! (4 ∷ 3 ∷ 5 ∷ 6 ∷ 7 ∷ []) $ closes ! tt Sr v' ts b o $
    sets ! (of_opd ! (unit_lit !)) refl (tt, tt) $
    feq_i ! (List Val) (vptr b o ∷ []) (vptr b o ∷ []) refl $ fjoin3 ! $ move ! (2 ∷ 3 ∷ []) $ feq_i ! (List Val) (vptr b' o' ∷ []) (vptr b' o' ∷ []) refl $ fjoin3 ! $
    nothing ! $ move ! (1 ∷ 0 ∷ []) $ fjoin ! $ move ! (1 ∷ 0 ∷ []) $ fjoin ! $
    move ! (2 ∷ 3 ∷ []) $ join ! $ move ! (2 ∷ 0 ∷ []) $ join ! $ feq_i ! (List Val) (vunit ∷ []) (vunit ∷ []) refl $
    use0 𝓛 (raw (fact 𝓤 (Learns v.account))) (fact_i 𝓤 (Learns v.account) (emp 𝓤) learned) $
    use0 𝓛 (raw (fact 𝓤 (wa ≡ wa))) (fact_i 𝓤 (wa ≡ wa) (emp 𝓤) refl) $ join ! $
    use0 𝓛 (raw (fact 𝓤 (va ≡ va))) (fact_i 𝓤 (va ≡ va) (emp 𝓤) refl) $ join ! $
    use0 𝓛 (raw (fact 𝓤 ((v.name ≡ v.name) × (v.name ≡ v.name)))) (fact_i 𝓤 ((v.name ≡ v.name) × (v.name ≡ v.name)) (emp 𝓤) (refl, refl)) $ join ! $
    returns ! (look_at ! 0 refl) $ free_all ! refl $ keep ! (2 ∷ 3 ∷ 1 ∷ 0 ∷ []) $ by ! (leaves 𝓛 En hs c y vunit tt (v', (w', tt)) (tt, (tt, tt))))))))))
