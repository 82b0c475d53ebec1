-- The fact of the token moves over, with the bytes that are let go, and a token that says nothing is left.
use Rattle.region_cut.proofs.Steps.{[], ◌∷◌, ◌≡◌, ℕ, List, GName, refl, proved, emp, fact, fact_i, flft, fres, ftrue, named, Val, vstruct, vnil, RattleType, raw, ‵, ◌⊛◌, ◌$◌, ◌∵◌, !, qed, done, move, keep, drop, use0, use2, split, split3, join, fsplit, fsplit3, feq_i, fjoin, fjoin3, fpack, suffices, rewrite, enter, no_more, agg, returns, alloc_all, pass_all, free_all, look_at, sets, nothing, no, yes, u8, MutRef, mut_vals, mut_Tells, MutSlice, mut_slice_vals, mut_slice_Tells, mut_slice_of, plain, Stays, stay_dropped, stay_ref, Goes-ref, Goes-spent_slice, Goes-dropped, uint_vals, uint_Tells, vint, walk_of, ends_at, opens, closes, heard, name_done, heres_id, coded_list, Valss, within, declared_shape}
use mir.Syntax.{w16, w32}
use denote.Builtin.{u16, u32}
use Rattle.region_cut.specs.Joins.{joins, joins_after, ends_as}
use Rattle.region_cut.specs.Carved.{Carved, all_joined}
use Rattle.region_cut.proofs.Joined.{begins, closes_with}
use Rattle.region_cut.specs.declared.endings.front.Tie.{Tie}
use Rattle.region_cut.specs.declared.endings.ties.Ties.{Ties}
use Rattle.region_cut.specs.contracts.endings.front.Tie as T
use Rattle.region_cut.specs.contracts.endings.ties.Ties as TS
use Rattle.std.specs.contracts.marker.PhantomData as Ph
use Rattle.region_cut.specs.contracts.endings.ties.gather as f
use Rattle.region_cut.proofs.endings.ties.gather.Statement.{statement}
use Rattle.region_cut.proofs.endings.ties.gather.Code as code

abbrev stayed : Stays f.ended.signature.params f.ended.kept
stayed = (stay_ref (0 ∷ []) tt (plain (λ _. TS.the_row)), (stay_ref (1 ∷ []) tt (plain (λ _. T.the_row)), (stay_dropped (mut_slice_of (2 ∷ []) tt (plain (λ _. u8))) no, (stay_dropped (plain (λ _. u16)) yes, (stay_dropped (plain (λ _. u32)) yes, tt)))))

pub gather_spec : {M : Type 1} → statement M
unfolding all_joined
gather_spec 𝓤 𝓛 𝓜 𝓡 wired =
    let c = f.clauses 𝓛 𝓜.mem 𝓡.returns in
    proved 𝓛 f.ended stayed c 𝓜 𝓡 (Goes-ref 𝓛 3 0 tt (plain (λ _. TS.the_row)), (Goes-ref 𝓛 3 1 tt (plain (λ _. T.the_row)), (Goes-spent_slice 𝓛 3 (2 ∷ []) tt (plain (λ _. u8)), (Goes-dropped 𝓛 3 (plain (λ _. u16)) yes (λ κs x w. refl), (Goes-dropped 𝓛 3 (plain (λ _. u32)) yes (λ κs x w. refl), tt)))))
    f.Key.name code.function (code.unfolded 𝓤 𝓛.H 𝓜 𝓡 wired)
    (λ κs. (mut_vals, (mut_vals, (mut_slice_vals, (uint_vals w16, (uint_vals w32, tt)))))) (λ κs. (mut_Tells (named 0) κs.0 TS.the_row, (mut_Tells (named 1) κs.1.0 T.the_row, (mut_slice_Tells (named 2) κs.1.1.0 u8, (uint_Tells w16, (uint_Tells w32, tt)))))) (λ κs qs bounds a _ are.
    let κ = κs.0 in let q = qs.0 in let κ' = κs.1.0 in let q' = qs.1.0 in let κ'' = κs.1.1.0 in let q'' = qs.1.1.0 in
    let t = a.0 in let b = t.ref_ptr.0 in let o = t.ref_ptr.1 in let ts = t.now in
    let i = a.1.0 in let b' = i.ref_ptr.0 in let o' = i.ref_ptr.1 in let d = i.now in
    let s = a.1.1.0 in let len : _ = are.1.1.0.0.1.0 in
    let chunk = a.1.1.1.0 in let class = a.1.1.1.1.0 in
    let fits_chunk : _ = are.1.1.1.0.1 in let fits_class : _ = are.1.1.1.1.0.1 in
    let e : Val = vstruct vnil in
    let X : RattleType = MutRef (named 2) κ'' u8 in
    let one : Carved = record { chunk = chunk; class = class; whole = d.whole; taken = d.taken; rest = s.now } in
    let ts' : Ties = record { all = one ∷ ts.all } in
    let d' : Tie = record { whole = d.whole; settled = []; taken = []; rest = d.whole } in
    let y : (walk_of 𝓛 f.ended stayed c).Ghost = ((κs, qs, bounds, a, (mut_vals t, (mut_vals i, (mut_slice_vals s, (vint w16 chunk ∷ [], (vint w32 class ∷ [], tt)))))), tt) in
    qed 𝓛 (((‵ (flft κ q) ⊛ ‵ (flft κ' q') ⊛ ‵ (flft κ'' q'') ⊛ ‵ ftrue) ⊛ ‵ ((MutRef (named 0) κ TS.the_row).own_val t (mut_vals t)) ⊛ ‵ ((MutRef (named 1) κ' T.the_row).own_val i (mut_vals i)) ⊛ ‵ ((MutSlice (named 2) κ'' u8).own_val s (mut_slice_vals s)) ⊛ ‵ (u16.own_val chunk (vint w16 chunk ∷ [])) ⊛ ‵ (u32.own_val class (vint w32 class ∷ [])) ⊛ ‵ ftrue) ∷
    (raw (fact 𝓤 (d.settled ≡ [])) ⊛ raw (fact 𝓤 (d.rest ≡ s.ghost_name))) ∷ []) ∵
    move ! (1 ∷ []) $ split ! $ heard ! _ (λ settled. heard ! _ (λ tied.
    split ! $ split3 ! $ move ! (2 ∷ []) $ split ! $ move ! (4 ∷ []) $ split3 ! $ move ! (2 ∷ []) $ split ! $
    -- [the slice; the numbers and nothing; the ties; the tie; token''; nothing; token; token']
    enter ! _ _ _ _ _ $ alloc_all ! (λ l. pass_all ! refl ((tt, tt), ((tt, tt), ((tt, (tt, (record { fits = len }, tt))), ((tt, record { fits = fits_chunk }), ((tt, record { fits = fits_class }), tt))))) $
    fsplit ! $ drop ! $ fsplit ! $ name_done ! tt $
    rewrite ! 0 (λ (bs : List ℕ). ‵ (fres s.ghost_name ((coded_list u8.coded).code bs))) (heres_id u8 s.now) refl $
    -- [what the slice ends as; its borrow; the numbers and nothing; the ties; the tie; token''; nothing; token; token']
    move ! (4 ∷ []) $ fsplit3 ! $ move ! (1 ∷ 2 ∷ 10 ∷ []) $ opens ! tt T.the_row {h = d} b' o' (λ us'. move ! (1 ∷ []) $ fsplit ! $ move ! (1 ∷ 7 ∷ []) $
    rewrite ! 0 (λ (bs : List ℕ). ‵ (joins_after d.whole bs d.taken d.rest)) settled refl $
    rewrite ! 0 (λ (δ : GName). ‵ (joins_after d.whole [] d.taken δ)) tied refl $
    use2 𝓛 (‵ (ends_as d.whole d.taken s.now)) (closes_with 𝓛 d.whole [] d.taken s.ghost_name s.now) $
    use0 𝓛 (‵ (joins d.whole [] d.whole)) (begins 𝓛 d.whole) $
    move ! (2 ∷ 0 ∷ []) $ fjoin ! $ move ! (2 ∷ 0 ∷ 3 ∷ 4 ∷ 5 ∷ []) $ closes ! tt T.the_row d' us' b' o' $
    -- [two parts of the tie; token'; what the chunk ends as; its third part; the borrow; the numbers and nothing; the ties; token''; nothing; token]
    move ! (4 ∷ 0 ∷ 1 ∷ []) $ fjoin3 ! $
    move ! (5 ∷ []) $ fsplit3 ! $ move ! (1 ∷ 2 ∷ 10 ∷ []) $ opens ! tt TS.the_row {h = ts} b o (λ us. move ! (1 ∷ []) $ fsplit ! $ move ! (9 ∷ 1 ∷ []) $ fjoin ! $
    move ! (1 ∷ 0 ∷ []) $ fjoin ! $ move ! (1 ∷ 0 ∷ []) $ closes ! tt TS.the_row ts' us b o $
    -- [two parts of the ties; token; its third part; the tie; token'; the borrow; the numbers and nothing; token''; nothing]
    sets ! (agg ! (no_more !)) refl (tt, tt) $
    returns ! (look_at ! 0 refl) $ free_all ! refl $
    suffices ! _ (ends_at 𝓛 f.ended stayed c y e (record {}) (ts', (d', (tt, (tt, (tt, tt))))) (tt, (tt, (tt, (tt, (tt, tt)))))) $
    move ! (3 ∷ 0 ∷ 1 ∷ []) $ fjoin3 ! $ nothing ! $ nothing ! $ fjoin ! $ nothing ! $ fjoin ! $ nothing ! $ fjoin ! $ move ! (3 ∷ 0 ∷ []) $ fjoin ! $ move ! (1 ∷ 0 ∷ []) $ fjoin ! $
    nothing ! $ feq_i ! (List Val) (e ∷ []) (e ∷ []) refl $ fjoin ! $ fpack ! (Valss []) (within (declared_shape (Ph.the_type X)) tt (e ∷ [])) tt $ move ! (1 ∷ 0 ∷ []) $ join ! $
    -- [the ties, the tie and the result; token; token'; the borrow; the numbers and nothing; token''; nothing]
    move ! (5 ∷ 6 ∷ []) $ join ! $ move ! (3 ∷ 0 ∷ []) $ join ! $ move ! (2 ∷ 0 ∷ []) $ join ! $ join ! $
    use0 𝓛 (raw (fact 𝓤 (ts'.all ≡ one ∷ ts.all))) (fact_i 𝓤 (ts'.all ≡ one ∷ ts.all) (emp 𝓤) refl) $ move ! (1 ∷ 0 ∷ []) $ join ! $ keep ! (0 ∷ []) $ done !))))))
