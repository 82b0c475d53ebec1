use Rattle.region_cut.proofs.Steps.{[], ◌∷◌, ◌≡◌, List, refl, length, proved, emp, fact, fact_i, flft, ftrue, named, Val, vstruct, vcons, vnil, RattleType, raw, ‵, ◌⊛◌, ◌$◌, ◌∵◌, !, qed, done, move, drop, use0, split, join, feq_i, fjoin, fpack, suffices, enter, no_more, and_then, agg, addr, from, fld, hop, stop, sub, whole, get, get_in, look_in_at, returns, alloc_all, pass_all, free_all, look_at, sets, nothing, within, shape, declared_shape, tuple_type, Valss, u8, no, MutSlice, slice_val, mut_slice_vals, mut_slice_Tells, mut_slice_of, plain, Stays, stay_dropped, Goes-spent_slice, ends_at}
use Rattle.region_cut.specs.Joins.{joins}
use Rattle.region_cut.specs.declared.endings.front.Tie.{Tie}
use Rattle.region_cut.specs.contracts.endings.front.Tie as T
use Rattle.region_cut.proofs.Joined.{begins}
use Rattle.region_cut.specs.contracts.endings.front.begin as f
use Rattle.region_cut.proofs.endings.front.begin.Statement.{statement}
use Rattle.region_cut.proofs.endings.front.begin.Code as code

abbrev stayed : Stays f.ended.signature.params f.ended.kept
stayed = (stay_dropped (mut_slice_of (0 ∷ []) tt (plain (λ _. u8))) no, tt)

pub begin_spec : {M : Type 1} → statement M
begin_spec 𝓤 𝓛 𝓜 𝓡 wired =
    let c = f.clauses 𝓛 𝓜.mem 𝓡.returns in
    proved 𝓛 f.ended stayed c 𝓜 𝓡 (Goes-spent_slice 𝓛 1 (0 ∷ []) tt (plain (λ _. u8)), tt)
    f.Key.name code.function (code.unfolded 𝓤 𝓛.H 𝓜 𝓡 wired)
    (λ κs. (mut_slice_vals, tt)) (λ κs. (mut_slice_Tells (named 0) κs.0 u8, tt)) (λ κs qs bounds a _ are.
    let κ = κs.0 in let q = qs.0 in let s = a.0 in let len : _ = are.0.0.1.0 in
    let S : RattleType = MutSlice (named 0) κ u8 in
    let γ = s.ghost_name in
    let d : Tie = record { whole = γ; settled = []; taken = []; rest = γ } in
    let e : Val = vstruct vnil in
    let v : Val = vstruct (vcons e (vcons (slice_val s.ref_ptr (length s.now)) vnil)) in
    qed 𝓛 (((‵ (flft κ q) ⊛ ‵ ftrue) ⊛ ‵ (S.own_val s (mut_slice_vals s)) ⊛ ‵ ftrue) ∷ ‵ ftrue ∷ []) ∵
    split ! $ move ! (2 ∷ []) $ drop ! $ move ! (1 ∷ []) $ split ! $
    enter ! _ _ _ _ _ $ alloc_all ! (λ l. pass_all ! refl ((tt, (tt, (record { fits = len }, tt))), tt) $
    sets ! (agg ! (no_more !)) refl (tt, tt) $
    sets ! (addr ! (from ! (fld ! refl (hop ! (look_in_at ! 1 (sub ! 0 refl (whole !))) (stop !))))) refl (tt, tt) $
    sets ! (agg ! (and_then ! (get ! refl) (and_then ! (get_in ! (fld ! refl (stop !)) (sub ! 1 refl (whole !))) (no_more !)))) refl (tt, (tt, (record { fits = len }, tt))) $
    sets ! (agg ! (and_then ! (get ! refl) (and_then ! (get ! refl) (no_more !)))) refl (tt, (tt, ((tt, (record { fits = len }, tt)), tt))) $
    returns ! (look_at ! 0 refl) $ free_all ! refl $
    suffices ! _ (ends_at 𝓛 f.ended stayed c ((κs, qs, bounds, a, (mut_slice_vals s, tt)), tt) v (d, s) (tt, tt) (tt, tt)) $
    -- [the slice; nothing; the token]
    fjoin ! $ use0 𝓛 (‵ (joins γ [] γ)) (begins 𝓛 γ) $
    nothing ! $ feq_i ! (List Val) (e ∷ []) (e ∷ []) refl $ fjoin ! $ fpack ! (Valss []) (within (shape T.the_type) tt (e ∷ [])) tt $ fjoin ! $ fjoin ! $
    feq_i ! (List Val) (v ∷ []) (v ∷ []) refl $ fjoin ! $ fpack ! (Valss (T.the_row ∷ S ∷ [])) (within (declared_shape (tuple_type (T.the_row ∷ S ∷ []))) (d, (s, tt)) (v ∷ [])) (e ∷ [], (mut_slice_vals s, tt)) $
    nothing ! $ nothing ! $ fjoin ! $ join ! $ move ! (1 ∷ 0 ∷ []) $ join ! $
    use0 𝓛 (raw (fact 𝓤 (s.now ≡ s.now))) (fact_i 𝓤 (s.now ≡ s.now) (emp 𝓤) refl) $
    use0 𝓛 (raw (fact 𝓤 (γ ≡ γ))) (fact_i 𝓤 (γ ≡ γ) (emp 𝓤) refl) $ join ! $
    use0 𝓛 (raw (fact 𝓤 (γ ≡ γ))) (fact_i 𝓤 (γ ≡ γ) (emp 𝓤) refl) $ join ! $
    use0 𝓛 (raw (fact 𝓤 (d.taken ≡ []))) (fact_i 𝓤 (d.taken ≡ []) (emp 𝓤) refl) $ join ! $
    use0 𝓛 (raw (fact 𝓤 (d.settled ≡ []))) (fact_i 𝓤 (d.settled ≡ []) (emp 𝓤) refl) $ join ! $
    use0 𝓛 (raw (fact 𝓤 (γ ≡ γ))) (fact_i 𝓤 (γ ≡ γ) (emp 𝓤) refl) $ join ! $
    move ! (1 ∷ 0 ∷ []) $ join ! $ done !))
