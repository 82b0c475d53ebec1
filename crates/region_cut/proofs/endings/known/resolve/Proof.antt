-- The facts of the chunks are used up, and what the chunks end as comes to what is known.
use Rattle.region_cut.proofs.Steps.{[], ◌∷◌, ◌≡◌, ◌++◌, List, refl, proved, emp, fact, fact_i, flft, ftrue, named, vunit, raw, ‵, ◌⊛◌, ◌$◌, ◌∵◌, !, qed, done, move, keep, use0, use1, use2, split, split3, join, fsplit, fsplit3, feq_i, fjoin, fjoin3, suffices, enter, of_opd, unit_lit, returns, alloc_all, pass_all, free_all, look_at, sets, nothing, Val, MutRef, mut_vals, mut_Tells, plain, Stays, stay_ref, Goes-ref, walk_of, ends_at, opens, closes, heard}
use types.Kit.{given, learn}
use Rattle.std.specs.Prelude.{map}
use Rattle.std.specs.List.{All}
use Rattle.region_cut.specs.Carved.{all_joined}
use Rattle.region_cut.specs.Endings.{Ended, Agrees, HasKnownSlots, ended_chunk, all_end_so}
use Rattle.region_cut.proofs.Resolved.{chunks_end, agrees}
use Rattle.region_cut.specs.declared.endings.known.Known.{Known}
use Rattle.region_cut.specs.declared.endings.ties.Ties.{Ties}
use Rattle.region_cut.specs.contracts.endings.known.Known as K
use Rattle.region_cut.specs.contracts.endings.ties.Ties as TS
use Rattle.region_cut.specs.contracts.endings.known.resolve as f
use Rattle.region_cut.proofs.endings.known.resolve.Statement.{statement}
use Rattle.region_cut.proofs.endings.known.resolve.Code as code

abbrev stayed : Stays f.ended.signature.params f.ended.kept
stayed = (stay_ref (0 ∷ []) tt (plain (λ _. K.the_row)), (stay_ref (1 ∷ []) tt (plain (λ _. TS.the_row)), tt))

pub resolve_spec : {M : Type 1} → statement M
unfolding all_joined
resolve_spec 𝓤 𝓛 𝓜 𝓡 wired =
    let c = f.clauses 𝓛 𝓜.mem 𝓡.returns in
    proved 𝓛 f.ended stayed c 𝓜 𝓡 (Goes-ref 𝓛 2 0 tt (plain (λ _. K.the_row)), (Goes-ref 𝓛 2 1 tt (plain (λ _. TS.the_row)), tt))
    f.Key.name code.function (code.unfolded 𝓤 𝓛.H 𝓜 𝓡 wired)
    (λ κs. (mut_vals, (mut_vals, tt))) (λ κs. (mut_Tells (named 0) κs.0 K.the_row, (mut_Tells (named 1) κs.1.0 TS.the_row, tt))) (λ κs qs bounds a _ are.
    let κ = κs.0 in let q = qs.0 in let κ' = κs.1.0 in let q' = qs.1.0 in
    let t = a.0 in let b = t.ref_ptr.0 in let o = t.ref_ptr.1 in let es = t.now.all in
    let s = a.1.0 in let b' = s.ref_ptr.0 in let o' = s.ref_ptr.1 in let cs = s.now.all in
    let new : List Ended = map (ended_chunk es) cs ++ es in
    let none : Ties = record { all = [] } in
    let y : (walk_of 𝓛 f.ended stayed c).Ghost = ((κs, qs, bounds, a, (mut_vals t, (mut_vals s, tt))), tt) in
    qed 𝓛 (((‵ (flft κ q) ⊛ ‵ (flft κ' q') ⊛ ‵ ftrue) ⊛ ‵ ((MutRef (named 0) κ K.the_row).own_val t (mut_vals t)) ⊛ ‵ ((MutRef (named 1) κ' TS.the_row).own_val s (mut_vals s)) ⊛ ‵ ftrue) ∷ raw (fact 𝓤 (All (HasKnownSlots es) cs)) ∷ []) ∵
    move ! (1 ∷ []) $ heard ! _ (λ slots.
    split ! $ split3 ! $ move ! (3 ∷ []) $ split3 ! $
    -- [what is known; the ties; nothing; token; token'; nothing]
    enter ! _ _ _ _ _ $ alloc_all ! (λ l. pass_all ! refl ((tt, tt), ((tt, tt), tt)) $
    move ! (1 ∷ []) $ fsplit3 ! $ move ! (1 ∷ 2 ∷ 6 ∷ []) $ opens ! tt TS.the_row {h = s.now} b' o' (λ us'. move ! (1 ∷ []) $ fsplit ! $ move ! (1 ∷ []) $
    nothing ! $ move ! (2 ∷ 0 ∷ []) $ fjoin ! $ move ! (2 ∷ 0 ∷ 3 ∷ 4 ∷ 5 ∷ []) $ closes ! tt TS.the_row none us' b' o' $
    -- [two parts of the ties; token'; their facts; their first part; what is known; nothing; token; nothing]
    move ! (4 ∷ 0 ∷ 1 ∷ []) $ fjoin3 ! $ move ! (3 ∷ []) $ fsplit3 ! $ move ! (1 ∷ 2 ∷ 7 ∷ []) $ opens ! tt K.the_row {h = t.now} b o (λ us. move ! (1 ∷ []) $ fsplit ! $ move ! (1 ∷ 9 ∷ []) $
    use2 𝓛 (‵ (all_end_so new)) (chunks_end 𝓛 es cs slots) $ use1 𝓛 (given (Agrees new) (‵ (all_end_so new))) (agrees 𝓛 new) $ learn ! (λ agree.
    let known : Known = record { all = new; agrees = agree } in
    move ! (1 ∷ 0 ∷ []) $ fjoin ! $ move ! (1 ∷ 0 ∷ []) $ closes ! tt K.the_row known us b o $
    move ! (3 ∷ 0 ∷ 1 ∷ []) $ fjoin3 ! $
    -- [what is known; token; the ties; token'; nothing; nothing]
    sets ! (of_opd ! (unit_lit !)) refl (tt, tt) $
    returns ! (look_at ! 0 refl) $ free_all ! refl $
    suffices ! _ (ends_at 𝓛 f.ended stayed c y vunit tt (known, (none, tt)) (tt, (tt, tt))) $
    nothing ! $ move ! (3 ∷ 0 ∷ []) $ fjoin ! $ move ! (1 ∷ 0 ∷ []) $ fjoin ! $
    feq_i ! (List Val) (vunit ∷ []) (vunit ∷ []) refl $ move ! (1 ∷ 0 ∷ []) $ join ! $
    move ! (2 ∷ 4 ∷ []) $ join ! $ move ! (2 ∷ 0 ∷ []) $ join ! $ join ! $
    use0 𝓛 (raw (fact 𝓤 (none.all ≡ []))) (fact_i 𝓤 (none.all ≡ []) (emp 𝓤) refl) $
    use0 𝓛 (raw (fact 𝓤 (known.all ≡ new))) (fact_i 𝓤 (known.all ≡ new) (emp 𝓤) refl) $ join ! $
    move ! (1 ∷ 0 ∷ []) $ join ! $ keep ! (0 ∷ []) $ done !))))))
