use Rattle.region_cut.proofs.Steps.{[], ◌∷◌, ◌≡◌, ◌++◌, ℕ, List, GName, refl, proved, emp, fact, fact_i, flft, fres, ftrue, named, Val, vstruct, vnil, RattleType, raw, ‵, ◌⊛◌, ◌$◌, ◌∵◌, !, qed, done, move, keep, drop, use0, use2, split, split3, join, fsplit, fsplit3, feq_i, fjoin, fjoin3, fpack, suffices, rewrite, enter, no_more, agg, returns, alloc_all, pass_all, free_all, look_at, sets, nothing, no, u8, MutRef, mut_vals, mut_Tells, MutSlice, mut_slice_vals, mut_slice_Tells, mut_slice_of, plain, Stays, stay_dropped, stay_ref, Goes-ref, Goes-spent_slice, walk_of, ends_at, opens, closes, heard, name_done, heres_id, coded_list, Valss, within, declared_shape}
use Rattle.region_cut.specs.Joins.{joins, joins_after, ends}
use Rattle.region_cut.proofs.Joined.{begins, finishes, settles}
use Rattle.region_cut.specs.declared.endings.front.Tie.{Tie}
use Rattle.region_cut.specs.contracts.endings.front.Tie as T
use Rattle.std.specs.contracts.marker.PhantomData as Ph
use Rattle.region_cut.specs.contracts.endings.front.let_go as f
use Rattle.region_cut.proofs.endings.front.let_go.Statement.{statement}
use Rattle.region_cut.proofs.endings.front.let_go.Code as code

abbrev stayed : Stays f.ended.signature.params f.ended.kept
stayed = (stay_ref (0 ∷ []) tt (plain (λ _. T.the_row)), (stay_ref (1 ∷ []) tt (plain (λ _. T.the_row)), (stay_dropped (mut_slice_of (2 ∷ []) tt (plain (λ _. u8))) no, tt)))

pub let_go_spec : {M : Type 1} → statement M
let_go_spec 𝓤 𝓛 𝓜 𝓡 wired =
    let c = f.clauses 𝓛 𝓜.mem 𝓡.returns in
    proved 𝓛 f.ended stayed c 𝓜 𝓡 (Goes-ref 𝓛 3 0 tt (plain (λ _. T.the_row)), (Goes-ref 𝓛 3 1 tt (plain (λ _. T.the_row)), (Goes-spent_slice 𝓛 3 (2 ∷ []) tt (plain (λ _. u8)), tt)))
    f.Key.name code.function (code.unfolded 𝓤 𝓛.H 𝓜 𝓡 wired)
    (λ κs. (mut_vals, (mut_vals, (mut_slice_vals, tt)))) (λ κs. (mut_Tells (named 0) κs.0 T.the_row, (mut_Tells (named 1) κs.1.0 T.the_row, (mut_slice_Tells (named 2) κs.1.1.0 u8, tt)))) (λ κs qs bounds a _ are.
    let κ = κs.0 in let q = qs.0 in let κ' = κs.1.0 in let q' = qs.1.0 in let κ'' = κs.1.1.0 in let q'' = qs.1.1.0 in
    let t = a.0 in let i = a.1.0 in let s = a.1.1.0 in
    let b = t.ref_ptr.0 in let o = t.ref_ptr.1 in let d = t.now in let b' = i.ref_ptr.0 in let o' = i.ref_ptr.1 in let h = i.now in let len : _ = are.1.1.0.0.1.0 in
    let e : Val = vstruct vnil in
    let X : RattleType = MutRef (named 2) κ'' u8 in
    let y : (walk_of 𝓛 f.ended stayed c).Ghost = ((κs, qs, bounds, a, (mut_vals t, (mut_vals i, (mut_slice_vals s, tt)))), tt) in
    let v : List ℕ = h.settled ++ s.now in
    qed 𝓛 (((‵ (flft κ q) ⊛ ‵ (flft κ' q') ⊛ ‵ (flft κ'' q'') ⊛ ‵ ftrue) ⊛ ‵ ((MutRef (named 0) κ T.the_row).own_val t (mut_vals t)) ⊛ ‵ ((MutRef (named 1) κ' T.the_row).own_val i (mut_vals i)) ⊛ ‵ ((MutSlice (named 2) κ'' u8).own_val s (mut_slice_vals s)) ⊛ ‵ ftrue) ∷
    (raw (fact 𝓤 (h.taken ≡ [])) ⊛ raw (fact 𝓤 (h.rest ≡ s.ghost_name)) ⊛ raw (fact 𝓤 ((more : List GName) × (d.taken ≡ h.whole ∷ more)))) ∷ []) ∵
    move ! (1 ∷ []) $ split3 ! $ heard ! _ (λ all_settled. heard ! _ (λ tied. heard ! _ (λ first.
    let xs : List GName = first.0 in
    let d' : Tie = record { whole = d.whole; settled = d.settled ++ v; taken = xs; rest = d.rest } in
    let h' : Tie = record { whole = h.whole; settled = []; taken = []; rest = h.whole } in
    split ! $ split3 ! $ move ! (2 ∷ []) $ split ! $ move ! (4 ∷ []) $ split3 ! $ move ! (2 ∷ []) $ split ! $
    -- [the slice; nothing; the tie; the inner tie; token''; nothing; token; token']
    enter ! _ _ _ _ _ $ alloc_all ! (λ l. pass_all ! refl ((tt, tt), ((tt, tt), ((tt, (tt, (record { fits = len }, tt))), tt))) $
    fsplit ! $ drop ! $ fsplit ! $ name_done ! tt $
    rewrite ! 0 (λ (bs : List ℕ). ‵ (fres s.ghost_name ((coded_list u8.coded).code bs))) (heres_id u8 s.now) refl $
    -- [what the slice ends as; its borrow; nothing; the tie; the inner tie; token''; nothing; token; token']
    move ! (4 ∷ []) $ fsplit3 ! $ move ! (1 ∷ 2 ∷ 10 ∷ []) $ opens ! tt T.the_row {h = h} b' o' (λ us. move ! (1 ∷ []) $ fsplit ! $ move ! (1 ∷ 7 ∷ []) $
    rewrite ! 0 (λ (zs : List GName). ‵ (joins_after h.whole h.settled zs h.rest)) all_settled refl $
    rewrite ! 0 (λ (δ : GName). ‵ (joins_after h.whole h.settled [] δ)) tied refl $
    use2 𝓛 (‵ (ends h.whole v)) (finishes 𝓛 h.whole h.settled s.ghost_name s.now) $
    use0 𝓛 (‵ (joins h.whole [] h.whole)) (begins 𝓛 h.whole) $
    move ! (2 ∷ 0 ∷ []) $ fjoin ! $ move ! (2 ∷ 0 ∷ 3 ∷ 4 ∷ 5 ∷ []) $ closes ! tt T.the_row h' us b' o' $
    -- [two parts of the inner tie; token'; what the inner whole ends as; its third part; the borrow; nothing; the tie; token''; nothing; token]
    move ! (4 ∷ 0 ∷ 1 ∷ []) $ fjoin3 ! $
    move ! (5 ∷ []) $ fsplit3 ! $ move ! (1 ∷ 2 ∷ 10 ∷ []) $ opens ! tt T.the_row {h = d} b o (λ ws. move ! (1 ∷ []) $ fsplit ! $ move ! (1 ∷ 9 ∷ []) $
    rewrite ! 0 (λ (zs : List GName). ‵ (joins_after d.whole d.settled zs d.rest)) first.1 refl $
    use2 𝓛 (‵ (joins_after d.whole d'.settled xs d.rest)) (settles 𝓛 d.whole d.settled h.whole xs d.rest v) $
    move ! (1 ∷ 0 ∷ []) $ fjoin ! $ move ! (1 ∷ 0 ∷ []) $ closes ! tt T.the_row d' ws b o $
    -- [two parts of the tie; token; its third part; the inner tie; token'; the borrow; nothing; token''; nothing]
    sets ! (agg ! (no_more !)) refl (tt, tt) $
    returns ! (look_at ! 0 refl) $ free_all ! refl $
    suffices ! _ (ends_at 𝓛 f.ended stayed c y e (record {}) (d', (h', (tt, tt))) (tt, (tt, (tt, tt)))) $
    move ! (3 ∷ 0 ∷ 1 ∷ []) $ fjoin3 ! $ nothing ! $ nothing ! $ fjoin ! $ move ! (3 ∷ 0 ∷ []) $ fjoin ! $ move ! (1 ∷ 0 ∷ []) $ fjoin ! $
    nothing ! $ feq_i ! (List Val) (e ∷ []) (e ∷ []) refl $ fjoin ! $ fpack ! (Valss []) (within (declared_shape (Ph.the_type X)) tt (e ∷ [])) tt $ move ! (1 ∷ 0 ∷ []) $ join ! $
    -- [the ties and the result; token; token'; the borrow; nothing; token''; nothing]
    move ! (5 ∷ 6 ∷ []) $ join ! $ move ! (3 ∷ 0 ∷ []) $ join ! $ move ! (2 ∷ 0 ∷ []) $ join ! $ join ! $
    use0 𝓛 (raw (fact 𝓤 (d'.rest ≡ d.rest))) (fact_i 𝓤 (d'.rest ≡ d.rest) (emp 𝓤) refl) $
    use0 𝓛 (raw (fact 𝓤 (d.taken ≡ h.whole ∷ d'.taken))) (fact_i 𝓤 (d.taken ≡ h.whole ∷ d'.taken) (emp 𝓤) first.1) $ join ! $
    use0 𝓛 (raw (fact 𝓤 (d'.settled ≡ d.settled ++ v))) (fact_i 𝓤 (d'.settled ≡ d.settled ++ v) (emp 𝓤) refl) $ join ! $
    use0 𝓛 (raw (fact 𝓤 (d'.whole ≡ d.whole))) (fact_i 𝓤 (d'.whole ≡ d.whole) (emp 𝓤) refl) $ join ! $
    move ! (1 ∷ 0 ∷ []) $ join ! $ keep ! (0 ∷ []) $ done !)))))))
