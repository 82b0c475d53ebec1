-- `of` takes the box apart. Assumes `Logic`.
use Rattle.slot_chain.proofs.Names.{vstruct, vcons, vnil, fact_use, guard_i, RawPtr, List, [], ◌∷◌, ◌++◌, refl, sym, ap, ◌∙◌, subst, Some, proved_at, a_type, dcons, dnil, Val, full_share, ent, emp, never, id⊢, fst∗, ftrue, flft, WpFn, sem, ‵, raw, ◌⊛◌, some, given, later, ◌$◌, ◌∵◌, !, qed, done, group, move, keep, drop, split, split3, join, fsplit, fjoin, fpack, pick, learn, suffices, use0, use1, await, feq_l, of_opd, no_more, and_then, returns, enter, alloc_all, pass_all, free_all, look_at, get, sets, lands_as, agg, fact, fact_i, tables, ◌⊑◌, ⊑_static, no, RattleType, owns, types_at, plain, Ptr, Testable, block_ptr, null_ptr, ptr_val, in_a_block, nothing, only, layout, Lasts, lasts, triple_of, calls_at, framed, Stays, stay_dropped, walk_of, Struct, shape, pure_i, says, ends_at}
use Rattle.slot_chain.proofs.LinkSteps.{bare, inst_fn, param, bounded, glues, box_owns, Goes-blank, passed, frees, Lk, the_link, dealloc_token-Testable, heap_handle, boxes, param_laws, handle_tells}
use Rattle.std.proofs.boxed.Box.into_raw.Met.{met}
use Rattle.std.specs.contracts.boxed.Box.into_raw as callee
use Rattle.slot_chain.specs.contracts.link.Link.of as f
use Rattle.slot_chain.proofs.link.Link.of.Statement.{statement}
use Rattle.slot_chain.proofs.link.Link.of.Code as code

pub of_spec : {M : Type 1} → statement M
unfolding Rattle.slot_chain.proofs.Destruct++none.drop.Code.code
of_spec {M = M} 𝓤 𝓛 𝓜 𝓡 wired T L dx glued =
    let 𝓣 = tables 𝓤 𝓛.H 𝓜 𝓡 𝓡.env in let R : RattleType = param 0 T in let τ = bare (layout T) in let A = heap_handle in let Z = boxes R (param_laws 0 T L) in let En = f.ended T dx in let c = f.clauses T dx 𝓛 𝓜.mem 𝓡.returns in
    let inst = bounded (a_type ∷ []) (T, tt) (dcons dx dnil) in let fn = inst_fn inst code.function in let self = plain (λ _. Z.row) in let hs : Stays En.signature.params En.kept = (stay_dropped self no, tt) in
    let known = met 𝓤 𝓛 𝓜 𝓡 (code.calls-std_alloc::boxed::Box::into_raw 𝓡.env wired) T A.row L A.laws A.g A.d A.drops dx
    (passed 𝓡.env (code.calls-std_heap::GlobalAllocator::allocate 𝓡.env wired) (code.calls-std_heap::GlobalAllocator::deallocate 𝓡.env wired) (code.calls-std_heap::GlobalAllocator::grow 𝓡.env wired) (code.calls-std_heap::GlobalAllocator::shrink 𝓡.env wired) M 𝓤 𝓛 𝓜 𝓡)
    (glues "slot_chain::Destruct++none::drop" 𝓡.env (code.calls-slot_chain::Destruct++none::drop 𝓡.env wired) A.row A.laws M 𝓤 𝓛 𝓜 𝓡) glued in
    proved_at 𝓛 En hs c 𝓜 𝓡 (Goes-blank 𝓛 1 self no (λ κs x f. tt), tt) (f.Key.name inst) fn (code.unfolded 𝓤 𝓛.H 𝓜 𝓡 wired (T, tt) dx) (λ z are.
    let κ = z.0.0.0 in let q = z.0.1.0 in let v = z.0.3.0 in let Post = (walk_of 𝓛 En hs c).post z in let Ec = callee.ended T A.row A.g A.d A.drops dx in let k = triple_of 𝓛 Ec.signature (callee.spec T A.row A.g A.d A.drops dx 𝓛 𝓜.mem 𝓡.returns) in
    qed 𝓛 (((‵ (flft κ q) ⊛ ‵ ftrue) ⊛ ‵ (owns (types_at En.signature.params z.0.0) z.0.3 z.0.4)) ∷ (raw (fact 𝓤 (κ ⊑ T.lives)) ⊛ ‵ ftrue) ∷ []) ∵ split ! $ split ! $ move ! (2 ∷ []) $ fsplit ! $
    handle_tells Z ! v z.0.4.0 (λ w ws fits. let y : k.Ghost = (((κ, ([], tt)), (q, (full_share, tt)), tt, (v, tt), (w ∷ [], tt)), tt) in fjoin ! $ move ! (3 ∷ []) $ split ! $
    use0 𝓛 (raw (fact 𝓤 ([] ⊑ A.row.lives))) (fact_i 𝓤 ([] ⊑ A.row.lives) (emp 𝓤) (⊑_static [])) $ use0 𝓛 (‵ (flft [] full_share)) (𝓛.lfts.lft-nil full_share) $
    -- [the heap's token; two facts on lifetimes; nothing; the box; the token; nothing]
    move ! (2 ∷ 1 ∷ 3 ∷ []) $ group ! 3 $ move ! (3 ∷ 1 ∷ 4 ∷ []) $ group ! 3 $ move ! (0 ∷ 2 ∷ []) $ join ! $ join ! $ use1 𝓛 (raw (k.pre y)) (id⊢ 𝓤 _) $
    suffices ! (WpFn 𝓤 𝓛.H 𝓣.C 𝓣.Λ fn (w ∷ []) Post) (subst (λ (us : List Val). ent 𝓤 (WpFn 𝓤 𝓛.H 𝓣.C 𝓣.Λ fn (w ∷ []) Post) (WpFn 𝓤 𝓛.H 𝓣.C 𝓣.Λ fn (us ++ []) Post)) (sym ws) (id⊢ 𝓤 _)) $
    enter ! _ _ _ _ _ $ alloc_all ! (λ l. pass_all ! refl (fits, tt) $ sets ! (of_opd ! (get ! refl)) refl fits $
    calls_at ! (framed 𝓤 𝓛.H 𝓜 𝓣) k known y (and_then ! (get ! refl) (no_more !)) (λ u.
    use1 𝓛 (later (some (λ (r : Ptr). ((‵ (flft κ q) ⊛ ‵ (flft [] full_share) ⊛ ‵ ftrue) ⊛ ‵ (RawPtr.own_val r (u ∷ []))) ⊛ some (λ (ls : Lasts Ec y.0.0 y.0.3). ‵ (lasts Ec y.0.0 y.0.3 ls) ⊛ ‵ (box_owns frees R r v.value))))) (id⊢ 𝓤 (k.post y u)) $
    await ! tt $ pick ! (λ r. split ! $ move ! (1 ∷ []) $ pick ! (λ _. split ! $ drop ! $
    in_a_block ! r (λ p. box_owns frees R p v.value) (fst∗ 𝓤 (never 𝓤) (sem 𝓛 (frees τ null_ptr))) (λ b o e.
    let p : Ptr = block_ptr b o in let word : Val = vstruct (vcons (ptr_val p) vnil) in let d : (Lk R).Denot = record { at = p; value = Some v.value } in
    fsplit ! $ move ! (1 ∷ []) $ use1 𝓛 (given (Testable p) (‵ (frees τ p))) (fact_use 𝓤 (Testable p) (dealloc_token-Testable 𝓛 _ τ p) (guard_i 𝓤 (Testable p) _)) $
    learn ! (λ t. move ! (1 ∷ 0 ∷ []) $ fjoin ! $ nothing ! $ fpack ! (Testable p) (λ _. ftrue) t $ fjoin ! $
    pure_i ! ((Struct (shape (the_link R))).own_val (p, tt) (word ∷ [])) (λ ps. (tt, (tt, tt))) ((ptr_val p ∷ [], tt), (refl, (refl, tt))) $ fjoin ! $
    move ! (1 ∷ []) $ split ! $ move ! (1 ∷ []) $ feq_l ! (λ is. lands_as ! (ap only is ∙ ap ptr_val e) refl (tt, tt) $ sets ! (agg ! (and_then ! (get ! refl) (no_more !))) refl (tt, (tt, tt)) $
    returns ! (look_at ! 0 refl) $ free_all ! refl $ split3 ! $ nothing ! $ nothing ! $ fjoin ! $ move ! (1 ∷ 3 ∷ []) $ join ! $ keep ! (0 ∷ 1 ∷ 3 ∷ []) $
    suffices ! _ (ends_at 𝓛 En hs c z word d (tt, tt) (tt, tt)) $ says ! refl $ group ! 3 $ done !)))))))))
