use Rattle.region_cut.proofs.Steps.{RattleType, fpack, fpick, peeks, shows, GName, walk_of, of_list, tuple_type, declared_shape as shape, fjoin3, Valss, within, GName, fpick, peeks, shows, [], ◌∷◌, ◌≡◌, ◌++◌, ◌≤◌, ℕ, List, refl, ap, ◌∙◌, length, take, drop_l, w64, MutBor, proved, id⊢, ftrue, flft, emp, named, fact, fact_i, tables, Val, vint, vstruct, vcons, vnil, ‵, raw, ◌⊛◌, some, later, ◌$◌, ◌∵◌, !, qed, done, move, drop, use0, use1, use2, split, split3, join, fsplit, fsplit3, fjoin, feq_i, feq_l, pick, await, rewrite, suffices, enter, addr, from, fld, hop, stop, no_more, and_then, agg, sub, whole, returns, alloc_all, pass_all, free_all, look_at, look_in_at, get, get_in, sets, lands_as, u8, usize, yes, no, MutRef, mut_vals, mut_Tells, MutSlice, slice_val, mut_slice_vals, mut_slice_Tells, uint_vals, uint_Tells, plain, mut_slice_of, nothing, opens, closes, heard, only, calls_at, lasts, Lasts, triple_of, Stays, stay_dropped, stay_ref, Goes-ref, Goes-spent_slice, Goes-dropped, ends_at, framed, follows_both, Array, Tuple}
use Rattle.region_cut.specs.Joins.{joins_after}
use Rattle.region_cut.specs.declared.endings.front.Tie.{Tie}
use Rattle.region_cut.specs.contracts.endings.front.Tie as T
use Rattle.region_cut.proofs.Joined.{goes_on}
use Rattle.region_cut.specs.contracts.endings.front.split as f
use Rattle.region_cut.proofs.endings.front.split.Statement.{statement}
use Rattle.region_cut.proofs.endings.front.split.Code as code
use Rattle.region_cut.specs.contracts.endings.front.halve as g
use Rattle.region_cut.proofs.endings.front.halve.Met.{met}

abbrev stayed : Stays f.ended.signature.params f.ended.kept
stayed = (stay_ref (0 ∷ []) tt (plain (λ _. T.the_row)), (stay_dropped (mut_slice_of (1 ∷ []) tt (plain (λ _. u8))) no, (stay_dropped (plain (λ _. usize)) yes, tt)))

pub split_spec : {M : Type 1} → statement M
split_spec 𝓤 𝓛 𝓜 𝓡 wired =
    let c = f.clauses 𝓛 𝓜.mem 𝓡.returns in
    proved 𝓛 f.ended stayed c 𝓜 𝓡 (Goes-ref 𝓛 2 0 tt (plain (λ _. T.the_row)), (Goes-spent_slice 𝓛 2 (1 ∷ []) tt (plain (λ _. u8)), (Goes-dropped 𝓛 2 (plain (λ _. usize)) yes (λ κs x w. refl), tt)))
    f.Key.name code.function (code.unfolded 𝓤 𝓛.H 𝓜 𝓡 wired)
    (λ κs. (mut_vals, (mut_slice_vals, (uint_vals w64, tt)))) (λ κs. (mut_Tells (named 0) κs.0 T.the_row, (mut_slice_Tells (named 1) κs.1.0 u8, (uint_Tells w64, tt)))) (λ κs qs bounds a _ are.
    let κ = κs.0 in let q = qs.0 in let κ' = κs.1.0 in let q' = qs.1.0 in
    let t = a.0 in let s = a.1.0 in let n = a.1.1.0 in let b = t.ref_ptr.0 in let o = t.ref_ptr.1 in let d = t.now in
    let fn : _ = are.1.1.0.1 in let len : _ = are.1.0.0.1.0 in
    let y : (walk_of 𝓛 f.ended stayed c).Ghost = ((κs, qs, bounds, a, (mut_vals t, (mut_slice_vals s, (vint w64 n ∷ [], tt)))), tt) in
    let G = triple_of 𝓛 g.signature (g.spec 𝓛 𝓜.mem 𝓡.returns) in
    let z : G.Ghost = (((κ', tt), (q', tt), tt, (s, (n, tt)), (mut_slice_vals s, (vint w64 n ∷ [], tt))), tt) in
    qed 𝓛 (((‵ (flft κ q) ⊛ ‵ (flft κ' q') ⊛ ‵ ftrue) ⊛ ‵ ((MutRef (named 0) κ T.the_row).own_val t (mut_vals t)) ⊛ ‵ ((MutSlice (named 1) κ' u8).own_val s (mut_slice_vals s)) ⊛ ‵ (usize.own_val n (vint w64 n ∷ [])) ⊛ ‵ ftrue) ∷ (raw (fact 𝓤 (n ≤ length s.now)) ⊛ raw (fact 𝓤 (d.rest ≡ s.ghost_name))) ∷ []) ∵
    split ! $ split3 ! $ move ! (3 ∷ []) $ split3 ! $ move ! (6 ∷ []) $ split ! $ heard ! _ (λ fits. heard ! _ (λ tied.
    -- [tie; slice; n and nothing; token; token'; nothing]
    move ! (4 ∷ 5 ∷ 1 ∷ 2 ∷ 0 ∷ 3 ∷ []) $ join ! $ move ! (1 ∷ 2 ∷ []) $ join ! $ move ! (1 ∷ 0 ∷ []) $ join ! $
    -- [what halve takes; tie; token]
    enter ! _ _ _ _ _ $ alloc_all ! (λ l. pass_all ! refl ((tt, tt), ((tt, (tt, (record { fits = len }, tt))), ((tt, record { fits = fn }), tt))) $
    sets ! (addr ! (from ! (fld ! refl (hop ! (look_in_at ! 2 (sub ! 0 refl (whole !))) (stop !))))) refl (tt, tt) $
    sets ! (agg ! (and_then ! (get ! refl) (and_then ! (get_in ! (fld ! refl (stop !)) (sub ! 1 refl (whole !))) (no_more !)))) refl (tt, (tt, (record { fits = len }, tt))) $
    use0 𝓛 (raw (fact 𝓤 (n ≤ length s.now))) (fact_i 𝓤 (n ≤ length s.now) (emp 𝓤) fits) $ move ! (1 ∷ 0 ∷ []) $ join ! $ use1 𝓛 (raw (G.pre z)) (id⊢ 𝓤 _) $
    calls_at ! (framed 𝓤 𝓛.H 𝓜 (tables 𝓤 𝓛.H 𝓜 𝓡 𝓡.env)) G (met 𝓤 𝓛 𝓜 𝓡 (code.calls-region_cut::endings::front::halve 𝓡.env wired)) z
    (and_then ! (get ! refl) (and_then ! (get ! refl) (no_more !))) (λ v.
    let V : MutBor (List ℕ) × MutBor (List ℕ) → Val = λ x. vstruct (vcons (slice_val x.0.ref_ptr (length x.0.now)) (vcons (slice_val x.1.ref_ptr (length x.1.now)) vnil)) in
    let S : RattleType = MutSlice (named 0) κ' u8 in
    use1 𝓛 (later (some (λ (r : MutBor (List ℕ) × MutBor (List ℕ)). ((‵ (flft κ' q') ⊛ ‵ ftrue) ⊛ ‵ ((Tuple (S ∷ S ∷ [])).own_val r (v ∷ []))) ⊛
    some (λ (ws : Lasts g.ended z.0.0 z.0.3). ‵ (lasts g.ended z.0.0 z.0.3 ws) ⊛ ‵ (follows_both (Array u8 0) (Array u8 0) (Array u8 0) s.ghost_name r.0.ghost_name r.1.ghost_name ◌++◌) ⊛ raw (fact 𝓤 (r.0.now ≡ take n s.now)) ⊛ raw (fact 𝓤 (r.1.now ≡ drop_l n s.now)))))) (id⊢ 𝓤 _) $
    await ! tt $ pick ! (λ r. split ! $ split ! $ split ! $ move ! (3 ∷ []) $ pick ! (λ ws. split ! $ drop ! $ split3 ! $ move ! (1 ∷ 2 ∷ []) $ heard ! _ (λ front. heard ! _ (λ back.
    move ! (3 ∷ []) $ fpick ! (λ vss. fsplit ! $ feq_l ! (λ e. fsplit ! $ peeks ! S _ (shows 𝓛 S) r.0 vss.0 (λ is0. move ! (1 ∷ []) $ fsplit ! $ peeks ! S _ (shows 𝓛 S) r.1 vss.1.0 (λ is1.
    let told : v ≡ V r = ap only e ∙ (λ i. vstruct (of_list (is0.0.0 i ++ (is1.0.0 i ++ [])))) in
    lands_as ! told refl (tt, ((tt, (record { fits = is0.0.1.0 }, tt)), ((tt, (record { fits = is1.0.1.0 }, tt)), tt))) $
    fjoin ! $ move ! (1 ∷ 0 ∷ []) $ fjoin ! $ feq_i ! (List Val) (v ∷ []) _ e $ fjoin ! $ fpack ! (Valss (S ∷ S ∷ [])) (within (shape (tuple_type (S ∷ S ∷ []))) (r.0, (r.1, tt)) (v ∷ [])) vss $
    rewrite ! 0 (λ (u : Val). ‵ ((Tuple (S ∷ S ∷ [])).own_val r (u ∷ []))) told refl $
    -- [the two parts; what follows; token'; nothing; the tie; token]
    let d' : Tie = record { whole = d.whole; settled = d.settled; taken = d.taken ++ r.0.ghost_name ∷ []; rest = r.1.ghost_name } in
    move ! (4 ∷ []) $ fsplit3 ! $ move ! (1 ∷ 2 ∷ 7 ∷ []) $ opens ! tt T.the_row {h = d} b o (λ us. move ! (1 ∷ []) $ fsplit ! $ move ! (1 ∷ 8 ∷ []) $
    rewrite ! 0 (λ (γ : GName). ‵ (joins_after d.whole d.settled d.taken γ)) tied refl $
    use2 𝓛 (‵ (joins_after d.whole d.settled d'.taken d'.rest)) (goes_on 𝓛 d.whole d.settled d.taken s.ghost_name r.0.ghost_name r.1.ghost_name) $
    move ! (1 ∷ 0 ∷ []) $ fjoin ! $ move ! (1 ∷ 0 ∷ []) $ closes ! tt T.the_row d' us b o $
    -- [two parts of the tie; token; its first part; the two parts; token'; nothing]
    returns ! (look_at ! 0 refl) $ free_all ! refl $
    suffices ! _ (ends_at 𝓛 f.ended stayed c y (V r) r (d', (tt, (tt, tt))) (tt, (tt, (tt, tt)))) $
    move ! (3 ∷ 0 ∷ 1 ∷ []) $ fjoin3 ! $ nothing ! $ nothing ! $ fjoin ! $ nothing ! $ fjoin ! $ move ! (1 ∷ 0 ∷ []) $ fjoin ! $
    move ! (0 ∷ 2 ∷ []) $ join ! $ move ! (2 ∷ 3 ∷ []) $ join ! $ move ! (2 ∷ 0 ∷ []) $ join ! $ join ! $
    use0 𝓛 (raw (fact 𝓤 (r.1.now ≡ drop_l n s.now))) (fact_i 𝓤 _ (emp 𝓤) back) $
    use0 𝓛 (raw (fact 𝓤 (r.0.now ≡ take n s.now))) (fact_i 𝓤 _ (emp 𝓤) front) $ join ! $
    use0 𝓛 (raw (fact 𝓤 (d'.rest ≡ r.1.ghost_name))) (fact_i 𝓤 (d'.rest ≡ r.1.ghost_name) (emp 𝓤) refl) $ join ! $
    use0 𝓛 (raw (fact 𝓤 (d'.taken ≡ d.taken ++ r.0.ghost_name ∷ []))) (fact_i 𝓤 (d'.taken ≡ d.taken ++ r.0.ghost_name ∷ []) (emp 𝓤) refl) $ join ! $
    use0 𝓛 (raw (fact 𝓤 (d'.settled ≡ d.settled))) (fact_i 𝓤 (d'.settled ≡ d.settled) (emp 𝓤) refl) $ join ! $
    use0 𝓛 (raw (fact 𝓤 (d'.whole ≡ d.whole))) (fact_i 𝓤 (d'.whole ≡ d.whole) (emp 𝓤) refl) $ join ! $
    move ! (1 ∷ 0 ∷ []) $ join ! $ done !))))))))))))))
