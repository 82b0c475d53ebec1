-- `get` reads the pointer through the `&`, and lends what the link shares. Assumes `Logic`.
use Rattle.slot_chain.proofs.Names.{group, RawPtr, after, env, at_ret, tables, ◌≡◌, List, [], ◌∷◌, refl, ◌+◌, Option, None, proved, ftrue, flft, named, a_type, Val, fact, ◌⊑◌, ‵, raw, ◌⊛◌, ◌$◌, ◌∵◌, !, qed, done, move, keep, drop, use1, split, split3, fsplit, fjoin, feq_i, feq_l, rewrite, suffices, look, enter, of_opd, addr, stop, fld, hop, first, blocks, exec, returns, alloc_all, pass_all, free_all, look_at, get, through, sets, sets_last, RefOf, yes, unhide, hide, RattleType, Ptr, InBlock, block_ptr, block_of, count_of, at_block, ptr_val, ShrRef, shr_vals, shr_Tells, hidden_shr, cell_at, RawPtr-copy, looks, shuts, plain, heard, nothing, Stays, walk_of, says, stay_dropped, Goes-dropped, ends_at, in_block_says}
use Rattle.slot_chain.proofs.LinkSteps.{inst_fn, param, layouts, link_lent, Lk, found}
use Rattle.slot_chain.specs.contracts.link.Link.get as f
use Rattle.slot_chain.proofs.link.Link.get.Statement.{statement}
use Rattle.slot_chain.proofs.link.Link.get.Code as code

pub get_spec : {M : Type 1} → statement M
get_spec 𝓤 𝓛 𝓜 𝓡 wired T L =
    let R : RattleType = param 0 T in let En = f.ended T in let c = f.clauses T 𝓛 𝓜.mem 𝓡.returns in let inst = layouts (a_type ∷ []) (T, tt) in let fn = inst_fn inst code.function in let 𝓣 = tables 𝓤 𝓛.H 𝓜 𝓡 𝓡.env in
    let self = RefOf (0 ∷ []) tt (plain (λ _. Lk R)) (λ _. tt) in let hs : Stays En.signature.params En.kept = (stay_dropped self yes, tt) in let W = walk_of 𝓛 En hs c in
    proved 𝓛 En hs c 𝓜 𝓡 (Goes-dropped 𝓛 2 self yes (λ κs x w. refl), tt) (f.Key.name inst) fn (code.unfolded 𝓤 𝓛.H 𝓜 𝓡 wired (T, tt))
    (λ κs. (shr_vals, tt)) (λ κs. (shr_Tells (named 0) κs.0 (Lk R), tt)) (λ κs qs bounds a g are.
    let κ = κs.0 in let x = a.0 in let b = x.ref_ptr.0 in let o = x.ref_ptr.1 + 0 in let m = x.now.value in
    let y : W.Ghost = ((κs, qs, bounds, a, (shr_vals x, tt)), g) in
    qed 𝓛 (((‵ (flft κ qs.0) ⊛ ‵ (flft κs.1.0 qs.1.0) ⊛ ‵ ftrue) ⊛ ‵ ((ShrRef (named 0) κ (Lk R)).own_val x (shr_vals x)) ⊛ ‵ ftrue) ∷ (raw (fact 𝓤 (κs.1.0 ⊑ T.lives)) ⊛ raw (fact 𝓤 (¬ (m ≡ None)))) ∷ []) ∵
    move ! (1 ∷ []) $ split ! $ move ! (1 ∷ []) $ heard ! (¬ (m ≡ None)) (λ some_one. let v = (found m some_one).0 in let is = (found m some_one).1 in
    move ! (1 ∷ []) $ split ! $ split3 ! $ move ! (3 ∷ []) $ split ! $ keep ! (0 ∷ 2 ∷ 3 ∷ []) $ enter ! _ _ _ _ _ $ alloc_all ! (λ l. pass_all ! refl ((tt, tt), tt) $
    fsplit ! $ drop ! $ unhide ! $ fsplit ! $ fsplit ! $ fsplit ! $ hide ! $ move ! (3 ∷ []) $ rewrite ! 0 (λ (n : Option T.Denot). ‵ (link_lent R x.now.at n κ)) is refl $
    fsplit ! $ drop ! $ fsplit ! $ use1 𝓛 (raw (fact 𝓤 (InBlock x.now.at))) (in_block_says 𝓛 x.now.at) $ heard ! (InBlock x.now.at) (λ inside. hide ! $
    -- [a `&` to the value; one to the pointer; two entries of nothing; the tokens]
    let p : Ptr = block_ptr (block_of x.now.at) (count_of x.now.at) in let w = ptr_val p in rewrite ! 1 (λ (r : Ptr). ‵ (hidden_shr RawPtr κ r b o)) (at_block x.now.at inside) refl $
    move ! (1 ∷ 4 ∷ []) $ looks ! tt RawPtr (RawPtr-copy.copied _ 𝓤 𝓛).opens p b o (λ q us. move ! (1 ∷ []) $ feq_l ! (λ e.
    rewrite ! 0 (λ (ws : List Val). ‵ (cell_at q RawPtr.mir ws b o)) e refl $ first ! $ blocks ! $
    sets_last ! (addr ! (through ! refl (fld ! refl (hop ! (look ! 0 refl) (stop !))))) refl (tt, tt) $ exec ! 𝓣.C 𝓣.Λ (env fn.locals l) (after 1 fn.body) (at_ret _ (W.post y)) $
    feq_i ! (List Val) (w ∷ []) (w ∷ []) refl $ move ! (1 ∷ 0 ∷ []) $ shuts ! tt RawPtr q p (w ∷ []) b o $
    sets ! (of_opd ! (get ! refl)) refl (tt, tt) $ returns ! (look_at ! 0 refl) $ free_all ! refl $ keep ! (2 ∷ 0 ∷ 5 ∷ []) $ feq_i ! (List Val) (w ∷ []) (w ∷ []) refl $ fjoin ! $
    suffices ! _ (ends_at 𝓛 En hs c y w (record { ref_ptr = (block_of x.now.at, count_of x.now.at); now = v }) (tt, tt) (tt, tt)) $ says ! is $
    nothing ! $ nothing ! $ fjoin ! $ nothing ! $ move ! (3 ∷ 4 ∷ 0 ∷ []) $ group ! 3 $ group ! 3 $ done !))))))
