-- The facts move over, and none are left.
use Rattle.region_cut.proofs.Steps.{[], ◌∷◌, ◌≡◌, ◌++◌, List, refl, proved, emp, fact, fact_i, flft, ftrue, named, vunit, raw, ‵, ◌⊛◌, ◌$◌, ◌∵◌, !, qed, done, move, keep, use0, use2, split, split3, join, fsplit, fsplit3, feq_i, fjoin, fjoin3, suffices, enter, of_opd, unit_lit, returns, alloc_all, pass_all, free_all, look_at, sets, nothing, Val, MutRef, mut_vals, mut_Tells, plain, Stays, stay_ref, Goes-ref, walk_of, ends_at, opens, closes}
use Rattle.region_cut.specs.Carved.{all_joined}
use Rattle.region_cut.proofs.Resolved.{joined_both}
use Rattle.region_cut.specs.declared.endings.ties.Ties.{Ties}
use Rattle.region_cut.specs.contracts.endings.ties.Ties as TS
use Rattle.region_cut.specs.contracts.endings.ties.join as f
use Rattle.region_cut.proofs.endings.ties.join.Statement.{statement}
use Rattle.region_cut.proofs.endings.ties.join.Code as code

abbrev stayed : Stays f.ended.signature.params f.ended.kept
stayed = (stay_ref (0 ∷ []) tt (plain (λ _. TS.the_row)), (stay_ref (1 ∷ []) tt (plain (λ _. TS.the_row)), tt))

pub join_spec : {M : Type 1} → statement M
unfolding all_joined
join_spec 𝓤 𝓛 𝓜 𝓡 wired =
    let c = f.clauses 𝓛 𝓜.mem 𝓡.returns in
    proved 𝓛 f.ended stayed c 𝓜 𝓡 (Goes-ref 𝓛 2 0 tt (plain (λ _. TS.the_row)), (Goes-ref 𝓛 2 1 tt (plain (λ _. TS.the_row)), tt))
    f.Key.name code.function (code.unfolded 𝓤 𝓛.H 𝓜 𝓡 wired)
    (λ κs. (mut_vals, (mut_vals, tt))) (λ κs. (mut_Tells (named 0) κs.0 TS.the_row, (mut_Tells (named 1) κs.1.0 TS.the_row, tt))) (λ κs qs bounds a _ are.
    let κ = κs.0 in let q = qs.0 in let κ' = κs.1.0 in let q' = qs.1.0 in
    let t = a.0 in let b = t.ref_ptr.0 in let o = t.ref_ptr.1 in let ds = t.now.all in
    let s = a.1.0 in let b' = s.ref_ptr.0 in let o' = s.ref_ptr.1 in let cs = s.now.all in
    let all : Ties = record { all = cs ++ ds } in
    let none : Ties = record { all = [] } in
    let y : (walk_of 𝓛 f.ended stayed c).Ghost = ((κs, qs, bounds, a, (mut_vals t, (mut_vals s, tt))), tt) in
    qed 𝓛 (((‵ (flft κ q) ⊛ ‵ (flft κ' q') ⊛ ‵ ftrue) ⊛ ‵ ((MutRef (named 0) κ TS.the_row).own_val t (mut_vals t)) ⊛ ‵ ((MutRef (named 1) κ' TS.the_row).own_val s (mut_vals s)) ⊛ ‵ ftrue) ∷ ‵ ftrue ∷ []) ∵
    split ! $ split3 ! $ move ! (3 ∷ []) $ split3 ! $
    -- [the first ties; the ties; nothing; token; token'; nothing]
    enter ! _ _ _ _ _ $ alloc_all ! (λ l. pass_all ! refl ((tt, tt), ((tt, tt), tt)) $
    move ! (1 ∷ []) $ fsplit3 ! $ move ! (1 ∷ 2 ∷ 6 ∷ []) $ opens ! tt TS.the_row {h = s.now} b' o' (λ us'. move ! (1 ∷ []) $ fsplit ! $ move ! (1 ∷ []) $
    nothing ! $ move ! (2 ∷ 0 ∷ []) $ fjoin ! $ move ! (2 ∷ 0 ∷ 3 ∷ 4 ∷ 5 ∷ []) $ closes ! tt TS.the_row none us' b' o' $
    -- [two parts of the ties; token'; their facts; their first part; the first ties; nothing; token; nothing]
    move ! (4 ∷ 0 ∷ 1 ∷ []) $ fjoin3 ! $ move ! (3 ∷ []) $ fsplit3 ! $ move ! (1 ∷ 2 ∷ 7 ∷ []) $ opens ! tt TS.the_row {h = t.now} b o (λ us. move ! (1 ∷ []) $ fsplit ! $ move ! (9 ∷ 1 ∷ []) $
    use2 𝓛 (‵ (all_joined (cs ++ ds))) (joined_both 𝓛 cs ds) $
    move ! (1 ∷ 0 ∷ []) $ fjoin ! $ move ! (1 ∷ 0 ∷ []) $ closes ! tt TS.the_row all us b o $
    move ! (3 ∷ 0 ∷ 1 ∷ []) $ fjoin3 ! $
    -- [the first ties; token; the ties; token'; nothing; nothing]
    sets ! (of_opd ! (unit_lit !)) refl (tt, tt) $
    returns ! (look_at ! 0 refl) $ free_all ! refl $
    suffices ! _ (ends_at 𝓛 f.ended stayed c y vunit tt (all, (none, tt)) (tt, (tt, tt))) $
    nothing ! $ move ! (3 ∷ 0 ∷ []) $ fjoin ! $ move ! (1 ∷ 0 ∷ []) $ fjoin ! $
    feq_i ! (List Val) (vunit ∷ []) (vunit ∷ []) refl $ move ! (1 ∷ 0 ∷ []) $ join ! $
    move ! (2 ∷ 4 ∷ []) $ join ! $ move ! (2 ∷ 0 ∷ []) $ join ! $ join ! $
    use0 𝓛 (raw (fact 𝓤 (none.all ≡ []))) (fact_i 𝓤 (none.all ≡ []) (emp 𝓤) refl) $
    use0 𝓛 (raw (fact 𝓤 (all.all ≡ cs ++ ds))) (fact_i 𝓤 (all.all ≡ cs ++ ds) (emp 𝓤) refl) $ join ! $
    move ! (1 ∷ 0 ∷ []) $ join ! $ keep ! (0 ∷ []) $ done !))))
