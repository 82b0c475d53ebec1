-- `at` reads the pointer through the `&`. Assumes `Logic`.
use Rattle.slot_chain.proofs.Names.{group, RawPtr, List, [], ◌∷◌, refl, ◌+◌, proved, ftrue, flft, named, a_type, Val, ‵, raw, ◌⊛◌, ◌$◌, ◌∵◌, !, qed, done, move, keep, drop, split, split3, fsplit, fjoin, feq_i, feq_l, rewrite, suffices, look, enter, of_opd, load, stop, fld, returns, alloc_all, pass_all, free_all, look_at, through, sets, RefOf, yes, unhide, hide, RattleType, ptr_val, rawptr_Lawful, ShrRef, shr_vals, shr_Tells, plain, nothing, Stays, walk_of, says, stay_dropped, Goes-dropped, ends_at, looks, shuts, RawPtr-copy, cell_at}
use Rattle.slot_chain.proofs.LinkSteps.{inst_fn, param, layouts, Lk}
use Rattle.slot_chain.specs.contracts.link.Link.at as f
use Rattle.slot_chain.proofs.link.Link.at.Statement.{statement}
use Rattle.slot_chain.proofs.link.Link.at.Code as code

pub at_spec : {M : Type 1} → statement M
at_spec 𝓤 𝓛 𝓜 𝓡 wired T L =
    let R : RattleType = param 0 T in let En = f.ended T in let c = f.clauses T 𝓛 𝓜.mem 𝓡.returns in let inst = layouts (a_type ∷ []) (T, tt) in
    let self = RefOf (0 ∷ []) tt (plain (λ _. Lk R)) (λ _. tt) in let hs : Stays En.signature.params En.kept = (stay_dropped self yes, tt) in let W = walk_of 𝓛 En hs c in
    proved 𝓛 En hs c 𝓜 𝓡 (Goes-dropped 𝓛 2 self yes (λ κs x w. refl), tt) (f.Key.name inst) (inst_fn inst code.function) (code.unfolded 𝓤 𝓛.H 𝓜 𝓡 wired (T, tt))
    (λ κs. (shr_vals, tt)) (λ κs. (shr_Tells (named 0) κs.0 (Lk R), tt)) (λ κs qs bounds a v are.
    let κ = κs.0 in let x = a.0 in let b = x.ref_ptr.0 in let o = x.ref_ptr.1 + 0 in let p = x.now.at in
    let y : W.Ghost = ((κs, qs, bounds, a, (shr_vals x, tt)), v) in
    qed 𝓛 (((‵ (flft κ qs.0) ⊛ ‵ (flft κs.1.0 qs.1.0) ⊛ ‵ ftrue) ⊛ ‵ ((ShrRef (named 0) κ (Lk R)).own_val x (shr_vals x)) ⊛ ‵ ftrue) ∷ raw ((c κs a).requires v) ∷ []) ∵
    split ! $ split3 ! $ move ! (3 ∷ []) $ split ! $ keep ! (0 ∷ 2 ∷ 3 ∷ []) $ enter ! _ _ _ _ _ $ alloc_all ! (λ l. pass_all ! refl ((tt, tt), tt) $
    fsplit ! $ drop ! $ unhide ! $ fsplit ! $ fsplit ! $ fsplit ! $ hide ! $ move ! (3 ∷ []) $ drop ! $
    -- [a `&` to the pointer; two entries of nothing; the tokens]
    move ! (0 ∷ 3 ∷ []) $ looks ! tt RawPtr (RawPtr-copy.copied _ 𝓤 𝓛).opens p b o (λ q us. move ! (1 ∷ []) $ feq_l ! (λ e.
    rewrite ! 0 (λ (ws : List Val). ‵ (cell_at q RawPtr.mir ws b o)) e refl $
    sets ! (of_opd ! (load ! (through ! refl (fld ! refl (stop !))) (look ! 0 refl))) refl ((rawptr_Lawful 𝓛).typed p _ refl).0 $
    feq_i ! (List Val) (ptr_val p ∷ []) (ptr_val p ∷ []) refl $ move ! (1 ∷ 0 ∷ []) $ shuts ! tt RawPtr q p (ptr_val p ∷ []) b o $
    returns ! (look_at ! 0 refl) $ free_all ! refl $
    keep ! (0 ∷ 4 ∷ []) $ feq_i ! (List Val) (ptr_val p ∷ []) (ptr_val p ∷ []) refl $ suffices ! _ (ends_at 𝓛 En hs c y (ptr_val p) p (tt, tt) (tt, tt)) $ says ! refl $
    nothing ! $ nothing ! $ fjoin ! $ nothing ! $ move ! (3 ∷ 4 ∷ 0 ∷ []) $ group ! 3 $ group ! 3 $ done !))))
