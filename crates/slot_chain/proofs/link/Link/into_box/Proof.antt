-- `into_box` makes the box again. Assumes `Logic`.
use Rattle.slot_chain.proofs.Names.{vstruct, vcons, vnil, ptr_val, ◌≡◌, List, [], ◌∷◌, ◌++◌, refl, sym, ap, ◌∙◌, subst, Option, Some, None, proved_at, after, a_type, Val, vptr, full_share, SProp, ent, emp, never, id⊢, fst∗, ftrue, flft, WpFn, sem, ‵, raw, ◌⊛◌, some, later, at_ret, ◌$◌, ◌∵◌, !, qed, done, group, move, keep, drop, split, split3, join, fsplit, fjoin, pick, suffices, use0, use1, await, rewrite, feq_i, stop, fld, of_opd, no_more, and_then, first, blocks, exec, returns, enter, alloc_all, pass_all, free_all, look_at, get, get_in, sets, lands_last, env, sub, whole, fact, fact_i, tables, ◌⊑◌, ⊑_static, yes, no, RattleType, owns, types_at, plain, RawPtr-laws, Ptr, block_ptr, null_ptr, in_a_block, nothing, heard, layout, Lasts, lasts, triple_of, calls_at_last, framed, Stays, stay_dropped, walk_of, says, ends_at, Goes-dropped, peeks, shows}
use Rattle.slot_chain.proofs.LinkSteps.{heap, bare, inst_fn, param, layouts, glues, box_owns, frees, link_owns, handle_tells, passed, Lk, the_link, Tells-lowered, found, heap_handle, boxes, param_laws}
use Rattle.std.proofs.boxed.Box.from_raw.Met.{met}
use Rattle.std.specs.contracts.boxed.Box.from_raw as callee
use Rattle.slot_chain.specs.contracts.link.Link.into_box as f
use Rattle.slot_chain.proofs.link.Link.into_box.Statement.{statement}
use Rattle.slot_chain.proofs.link.Link.into_box.Code as code

pub into_box_spec : {M : Type 1} → statement M
unfolding Rattle.slot_chain.proofs.Destruct++none.drop.Code.code
into_box_spec {M = M} 𝓤 𝓛 𝓜 𝓡 wired T L =
    let 𝓣 = tables 𝓤 𝓛.H 𝓜 𝓡 𝓡.env in let R : RattleType = param 0 T in let A = heap_handle in let Z = boxes R (param_laws 0 T L) in let En = f.ended T in let c = f.clauses T 𝓛 𝓜.mem 𝓡.returns in
    let inst = layouts (a_type ∷ []) (T, tt) in let fn = inst_fn inst code.function in let self = plain (λ _. Lk R) in let handle = plain (λ _. heap) in
    let hs : Stays En.signature.params En.kept = (stay_dropped self no, (stay_dropped handle yes, tt)) in
    let known = met 𝓤 𝓛 𝓜 𝓡 (code.calls-std_alloc::boxed::Box::from_raw 𝓡.env wired) T A.row L A.laws A.g A.d A.drops
    (passed 𝓡.env (code.calls-std_heap::GlobalAllocator::allocate 𝓡.env wired) (code.calls-std_heap::GlobalAllocator::deallocate 𝓡.env wired) (code.calls-std_heap::GlobalAllocator::grow 𝓡.env wired) (code.calls-std_heap::GlobalAllocator::shrink 𝓡.env wired) M 𝓤 𝓛 𝓜 𝓡)
    (glues "slot_chain::Destruct++none::drop" 𝓡.env (code.calls-slot_chain::Destruct++none::drop 𝓡.env wired) A.row A.laws M 𝓤 𝓛 𝓜 𝓡) in
    proved_at 𝓛 En hs c 𝓜 𝓡 (Goes-dropped 𝓛 1 self no (λ κs x f. refl), (Goes-dropped 𝓛 1 handle yes (λ κs x f. refl), tt)) (f.Key.name inst) fn (code.unfolded 𝓤 𝓛.H 𝓜 𝓡 wired (T, tt)) (λ z are.
    let κ = z.0.0.0 in let q = z.0.1.0 in let d = z.0.3.0 in let a = z.0.3.1.0 in let Post = (walk_of 𝓛 En hs c).post z in let Run : List Val → SProp 𝓤 = λ us. WpFn 𝓤 𝓛.H 𝓣.C 𝓣.Λ fn us Post in
    let Ec = callee.ended T A.row A.g A.d A.drops in let k = triple_of 𝓛 Ec.signature (callee.spec T A.row A.g A.d A.drops 𝓛 𝓜.mem 𝓡.returns) in
    qed 𝓛 (((‵ (flft κ q) ⊛ ‵ ftrue) ⊛ ‵ (owns (types_at En.signature.params z.0.0) z.0.3 z.0.4)) ∷ (raw (fact 𝓤 (κ ⊑ T.lives)) ⊛ raw (fact 𝓤 (¬ (d.value ≡ None)))) ∷ []) ∵
    split ! $ split ! $ move ! (3 ∷ []) $ split ! $ move ! (1 ∷ []) $ heard ! (¬ (d.value ≡ None)) (λ some_one. let x = (found d.value some_one).0 in let is = (found d.value some_one).1 in
    -- [a fact on lifetimes; the token; nothing; the parameters]
    move ! (3 ∷ []) $ fsplit ! $ fsplit ! $ drop ! $ rewrite ! 0 (λ (m : Option T.Denot). ‵ (link_owns R d.at m)) is refl $ fsplit ! $ drop ! $
    in_a_block ! d.at (λ p. box_owns frees R p x) (fst∗ 𝓤 (never 𝓤) (sem 𝓛 (frees (bare (layout T)) null_ptr))) (λ b o e. move ! (1 ∷ []) $ fsplit ! $ handle_tells A ! a z.0.4.1.0 (λ h hv fits.
    let w : Val = vstruct (vcons (vptr b o) vnil) in let y : k.Ghost = (((κ, ([], tt)), (q, (full_share, tt)), tt, (a, (block_ptr b o, tt)), (h ∷ [], (vptr b o ∷ [], tt))), x) in
    -- [the handle; nothing; what the link owns; a fact on lifetimes; the token; nothing]
    use0 𝓛 (raw (fact 𝓤 ([] ⊑ A.row.lives))) (fact_i 𝓤 ([] ⊑ A.row.lives) (emp 𝓤) (⊑_static [])) $ move ! (4 ∷ 0 ∷ 3 ∷ []) $ group ! 3 $
    use0 𝓛 (‵ (flft [] full_share)) (𝓛.lfts.lft-nil full_share) $ move ! (4 ∷ 0 ∷ 5 ∷ []) $ group ! 3 $ feq_i ! (List Val) (vptr b o ∷ []) (vptr b o ∷ []) refl $
    move ! (0 ∷ 4 ∷ []) $ fjoin ! $ move ! (3 ∷ 0 ∷ []) $ fjoin ! $ move ! (1 ∷ 0 ∷ []) $ join ! $ join ! $ use1 𝓛 (raw (k.pre y)) (id⊢ 𝓤 _) $
    let ws : z.0.4.0 ≡ w ∷ [] = Tells-lowered (the_link R) (RawPtr-laws, tt) d z.0.4.0 are.0 ∙ ap (λ (p : Ptr). vstruct (vcons (ptr_val p) vnil) ∷ []) e in
    suffices ! (Run (w ∷ h ∷ [])) (subst (λ (us : List Val). ent 𝓤 (Run (w ∷ h ∷ [])) (Run us)) (sym (λ i. ws i ++ (hv i ++ []))) (id⊢ 𝓤 _)) $
    enter ! _ _ _ _ _ $ alloc_all ! (λ l. pass_all ! refl ((tt, (tt, tt)), (fits, tt)) $ let Ev = env fn.locals l in
    sets ! (of_opd ! (get_in ! (fld ! refl (stop !)) (sub ! 0 refl (whole !)))) refl (tt, tt) $ first ! $ blocks ! $
    calls_at_last ! (framed 𝓤 𝓛.H 𝓜 𝓣) k known y (and_then ! (get ! refl) (and_then ! (get ! refl) (no_more !))) (λ u.
    use1 𝓛 (later (some (λ (r : Z.row.Denot). ((‵ (flft κ q) ⊛ ‵ (flft [] full_share) ⊛ ‵ ftrue) ⊛ ‵ (Z.row.own_val r (u ∷ []))) ⊛ some (λ (ls : Lasts Ec y.0.0 y.0.3). ‵ (lasts Ec y.0.0 y.0.3 ls) ⊛ (raw (fact 𝓤 (r.value ≡ x)) ⊛ raw (fact 𝓤 (r.alloc ≡ a))))))) (id⊢ 𝓤 (k.post y u)) $
    await ! tt $ pick ! (λ r. split ! $ move ! (1 ∷ []) $ pick ! (λ _. split3 ! $ drop ! $ heard ! (r.value ≡ x) (λ same. drop ! $ split ! $ move ! (1 ∷ []) $
    peeks ! Z.row _ (shows 𝓛 Z.row) r (u ∷ []) (λ is_box. let good = ((Z.laws.lawful 𝓛).typed r (u ∷ []) is_box).0 in
    lands_last ! refl good $ exec ! 𝓣.C 𝓣.Λ Ev (after 2 fn.body) (at_ret Ev Post) $ sets ! (of_opd ! (get ! refl)) refl good $ returns ! (look_at ! 0 refl) $ free_all ! refl $
    move ! (1 ∷ []) $ split3 ! $ move ! (0 ∷ 2 ∷ []) $ join ! $ nothing ! $ nothing ! $ fjoin ! $ nothing ! $ fjoin ! $ keep ! (1 ∷ 0 ∷ 3 ∷ []) $
    suffices ! _ (ends_at 𝓛 En hs c z u r (tt, (tt, tt)) (tt, (tt, tt))) $ says ! (is ∙ ap Some (sym same)) $ group ! 3 $ done !))))))))))
