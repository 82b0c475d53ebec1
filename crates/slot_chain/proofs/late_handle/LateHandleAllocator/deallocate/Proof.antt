-- It gives the block back by the handle, and there is no block where there is no handle. Assumes `Logic`.
use Rattle.slot_chain.proofs.LateNames.{◌≡◌, List, [], ◌∷◌, refl, sym, subst, w64, after, front, arm_body, Al, token, Gives, at_gives, Gives-goes, Gives-Gives, proved, leaves, T, a_type, dnil, dcons, named, ty_unit, Val, vunit, vint, vptr, has_ty, WT, inst_fn, size, align, capped, Wp, WpFn, after_seq, at_return, SProp, ent, id⊢, fst∗, never, never_e, Fml, fsep, flft, ◌⊑◌, ⊑_trans, fact, tables, sem, ‵, raw, ◌⊛◌, later, given, at_ret, any_q, ◌$◌, ◌∵◌, !, qed, by, move, keep, use1, split3, join, learn, rewrite, fsplit, fjoin, feq_i, group, suffices, await, done, whole, vrt, in_variant, stop, fld, unit_lit, no_more, and_then, of_opd, first, exec, switches_on, returns, enter, alloc_all, pass_all, free_all, look_at, get, get_in, get_tag, sets, lands_as, lands_last, env, usize, RawPtr, RefOf, yes, bounded, uint_vals, uint_Tells, owns, Ptr, block_ptr, null_ptr, ptr_val, in_a_block, room_for, rawptr_vals, rawptr_Tells, shr_vals, shr_Tells, plain, heard, nothing, calls_at, calls_at_last, framed, Stays, stay_dropped, walk_of, Goes-dropped}
use Rattle.slot_chain.proofs.LateSteps.{holder, Handles, asks, asked, lent, tokens, answered, some_fits}
use Rattle.slot_chain.proofs.late_handle.LateHandle.handle.Met.{met}
use Rattle.slot_chain.specs.LateHandles.{frees_late}
use Rattle.slot_chain.specs.contracts.late_handle.LateHandleAllocator.deallocate as f
use Rattle.slot_chain.proofs.late_handle.LateHandleAllocator.deallocate.Statement.{statement}
use Rattle.slot_chain.proofs.late_handle.LateHandleAllocator.deallocate.Code as code

pub deallocate_spec : {M : Type 1} → statement M
deallocate_spec 𝓤 𝓛 𝓜 𝓡 wired Y L g d d' bound _ =
    let Z : Al = record { row = Y; laws = L; g = g; d = d; drops = d' } in let 𝓣 = tables 𝓤 𝓛.H 𝓜 𝓡 𝓡.env in
    let En = f.ended Y g d d' in let c = f.clauses Y g d d' 𝓛 𝓜.mem 𝓡.returns in let inst = bounded (a_type ∷ []) (Y, tt) (dcons d (dcons d' dnil)) in let fn = inst_fn inst code.function in
    let self = RefOf (0 ∷ []) tt (plain (λ _. holder Z)) (λ _. tt) in let pointer = plain (λ _. RawPtr) in let word = plain (λ _. usize) in
    let hs : Stays En.signature.params En.kept = (stay_dropped self yes, (stay_dropped pointer yes, (stay_dropped word yes, (stay_dropped word yes, tt)))) in
    proved 𝓛 En hs c 𝓜 𝓡 (Goes-dropped 𝓛 2 self yes (λ κs x w. refl), (Goes-dropped 𝓛 2 pointer yes (λ κs x w. refl), (Goes-dropped 𝓛 2 word yes (λ κs x w. refl), (Goes-dropped 𝓛 2 word yes (λ κs x w. refl), tt))))
    (f.Key.name inst) fn (code.unfolded 𝓤 𝓛.H 𝓜 𝓡 wired (Y, tt) d d') (λ κs. (shr_vals, (rawptr_vals, (uint_vals w64, (uint_vals w64, tt))))) (λ κs. (shr_Tells (named 0) κs.0 (holder Z), (rawptr_Tells, (uint_Tells w64, (uint_Tells w64, tt)))))
    (λ κs qs bounds x τ are.
    let κ = κs.0 in let ρ = κs.1.0 in let q = qs.0 in let s = qs.1.0 in let out = bounds.0 in let r = x.0 in let n = x.1.1.0 in let a = x.1.1.1.0 in
    let y : Ptr → (walk_of 𝓛 En hs c).Ghost = λ p. ((κs, qs, bounds, (r, (p, (n, (a, tt)))), (shr_vals r, (rawptr_vals p, (vint w64 n ∷ [], (vint w64 a ∷ [], tt))))), τ) in
    let Run : Ptr → SProp 𝓤 = λ p. WpFn 𝓤 𝓛.H 𝓣.C 𝓣.Λ fn (vptr r.ref_ptr.0 r.ref_ptr.1 ∷ ptr_val p ∷ vint w64 n ∷ vint w64 a ∷ []) ((walk_of 𝓛 En hs c).post (y p)) in
    let Fits : Type 0 = (capped (size τ) ≡ n) × (capped (align τ) ≡ a) in let right : List Y.Denot → Ptr → Fml = λ hs. frees_late (token Z) hs τ in let block : Ptr → Fml = λ p. fsep (room_for τ p) (right r.now p) in
    let kept = tokens Z 𝓛 𝓜.mem 𝓡.returns κ ρ q s out r in let ask = asks Z 𝓛 𝓜.mem 𝓡.returns κ ρ q s out r in let Ask = Handles Z 𝓛 𝓜.mem 𝓡.returns in
    qed 𝓛 ((kept ⊛ lent Z 𝓛 𝓜.mem 𝓡.returns κ ρ q s out r ⊛ ‵ (owns (RawPtr ∷ usize ∷ usize ∷ []) x.1 (rawptr_vals x.1.0, (vint w64 n ∷ [], (vint w64 a ∷ [], tt))))) ∷ (raw (fact 𝓤 (ρ ⊑ Y.lives)) ⊛ raw (fact 𝓤 Fits) ⊛ ‵ (block x.1.0)) ∷ []) ∵
    move ! (1 ∷ []) $ split3 ! $ heard ! (ρ ⊑ Y.lives) (λ le. heard ! Fits (λ said. in_a_block ! x.1.0 block (fst∗ 𝓤 (never 𝓤) (sem 𝓛 (right r.now null_ptr))) (λ b o at.
    suffices ! (Run (block_ptr b o)) (subst (λ (p : Ptr). ent 𝓤 (Run (block_ptr b o)) (Run p)) (sym at) (id⊢ 𝓤 _)) $ move ! (1 ∷ []) $ split3 ! $ keep ! (1 ∷ 0 ∷ 3 ∷ []) $ join ! $
    enter ! _ _ _ _ _ $ alloc_all ! (λ l. pass_all ! refl ((tt, tt), ((tt, tt), ((tt, record { fits = are.1.1.0.1 }), ((tt, record { fits = are.1.1.1.0.1 }), tt)))) $ let Ev = env fn.locals l in
    let Post = (walk_of 𝓛 En hs c).post (y (block_ptr b o)) in let Then = any_q (after_seq 𝓤 𝓛.H (Wp 𝓤 𝓛.H 𝓣.C 𝓣.Λ Ev (after 2 fn.body) (at_return 𝓤 𝓛.H Ev Post)) (at_return 𝓤 𝓛.H Ev Post)) in
    use1 𝓛 (raw (Ask.pre ask)) (asked Z 𝓛 𝓜.mem 𝓡.returns κ ρ q s out r le) $
    calls_at ! (framed 𝓤 𝓛.H 𝓜 𝓣) Ask (met 𝓤 𝓛 𝓜 𝓡 (code.calls-slot_chain::late_handle::LateHandle::handle 𝓡.env wired) Y L) ask (and_then ! (get ! refl) (no_more !)) (λ u.
    answered Z 𝓛 𝓜.mem 𝓡.returns κ ρ q s out r ! tt u
    (λ e none. move ! (1 ∷ []) $ fsplit ! $ rewrite ! 1 (λ (hs : List Y.Denot). ‵ (right hs (block_ptr b o))) none refl $ keep ! (1 ∷ []) $ by ! (never_e 𝓤 _))
    (λ h e one. let Give = Gives Z 𝓛 𝓜.mem 𝓡.returns in let ty = at_gives Z 𝓛 𝓜.mem 𝓡.returns κ q h.ref_ptr h.now b o n a τ in
    lands_as ! e refl (some_fits Z h) $ first ! $ switches_on ! (get_tag ! (vrt ! refl (fld ! refl (stop !))) (whole !)) $ exec ! 𝓣.C 𝓣.Λ Ev (arm_body 0 (front (after 1 fn.body))) Then $
    sets ! (of_opd ! (get_in ! (vrt ! refl (fld ! refl (stop !))) (in_variant ! 1 0 refl refl (whole !)))) refl (tt, tt) $
    -- [the `&` to the handle; the tokens; the block]
    move ! (1 ∷ []) $ split3 ! $ move ! (4 ∷ []) $ fsplit ! $ rewrite ! 1 (λ (hs : List Y.Denot). ‵ (right hs (block_ptr b o))) one refl $ move ! (0 ∷ 1 ∷ 5 ∷ 2 ∷ []) $ group ! 4 $
    use1 𝓛 (raw (Give.pre ty)) (Gives-goes Z 𝓛 𝓜.mem 𝓡.returns κ q h.ref_ptr h.now (⊑_trans κ ρ Y.lives out le) b o n a τ said.0 said.1 are.1.1.0.1 are.1.1.1.0.1) $
    calls_at_last ! (framed 𝓤 𝓛.H 𝓜 𝓣) Give (bound.deallocate d') ty (and_then ! (get ! refl) (and_then ! (get ! refl) (and_then ! (get ! refl) (and_then ! (get ! refl) (no_more !))))) (λ v.
    use1 𝓛 (later (given (v ≡ vunit) (‵ (flft κ q)))) (Gives-Gives Z 𝓛 𝓜.mem 𝓡.returns κ q h.ref_ptr h.now b o n a τ v) $ await ! tt $ learn ! (λ k. group ! 3 $
    lands_last ! refl (subst (λ (w : Val). T (has_ty ty_unit w) × WT w) (sym k) (tt, tt)) $ exec ! 𝓣.C 𝓣.Λ Ev (after 2 fn.body) (at_ret Ev Post) $ sets ! (of_opd ! (unit_lit !)) refl (tt, tt) $
    returns ! (look_at ! 0 refl) $ free_all ! refl $ suffices ! _ (leaves 𝓛 En hs c (y (block_ptr b o)) vunit tt (tt, (tt, (tt, (tt, tt)))) (tt, (tt, (tt, (tt, tt))))) $
    nothing ! $ feq_i ! (List Val) (vunit ∷ []) (vunit ∷ []) refl $ nothing ! $ nothing ! $ fjoin ! $ nothing ! $ fjoin ! $ nothing ! $ fjoin ! $ nothing ! $ fjoin ! $ move ! (3 ∷ 0 ∷ []) $ done !)))))))))
