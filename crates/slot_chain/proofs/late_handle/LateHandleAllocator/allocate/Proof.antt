-- It asks the handle, and refuses where there is none. Assumes `Logic`.
use Rattle.slot_chain.proofs.LateNames.{◌≡◌, ℕ, List, [], ◌∷◌, Ok, Err, true, false, refl, sym, subst, w64, after, front, arm_body, Al, token, Answer, answer_val, Answer-typed, Answer-Ok, Answer-err, Takes, at_takes, Answered, Takes-goes, Takes-gives, answers, proved, leaves, T, a_type, dnil, dcons, named, Val, vint, has_ty, WT, inst_fn, size, align, capped, Wp, after_seq, at_return, flft, ◌⊑◌, ⊑_trans, fact, tables, ent, ⋆, block_if_ok, ‵, raw, ◌⊛◌, later, at_ret, any_q, ◌$◌, ◌∵◌, !, qed, by, move, keep, use0, use1, use2, split, split3, join, rewrite, fjoin, group, suffices, await, done, whole, agg, vrt, in_variant, stop, fld, lit, no_more, and_then, of_opd, first, exec, switches_on, returns, enter, alloc_all, pass_all, free_all, look_at, get, get_in, get_tag, sets, sets_last, lands_as, lands_last, env, usize, RefOf, yes, layout, bounded, uint_vals, uint_Tells, owns, block_ptr, shr_vals, shr_Tells, plain, heard, nothing, calls_at, calls_at_last, framed, Stays, stay_dropped, walk_of, Goes-dropped}
use Rattle.slot_chain.proofs.LateSteps.{holder, Handles, asks, asked, lent, tokens, answered, none_fits, some_fits}
use Rattle.slot_chain.proofs.late_handle.LateHandle.handle.Met.{met}
use Rattle.slot_chain.specs.LateHandles.{frees_late}
use Rattle.slot_chain.specs.contracts.late_handle.LateHandleAllocator.allocate as f
use Rattle.slot_chain.proofs.late_handle.LateHandleAllocator.allocate.Statement.{statement}
use Rattle.slot_chain.proofs.late_handle.LateHandleAllocator.allocate.Code as code

pub allocate_spec : {M : Type 1} → statement M
allocate_spec 𝓤 𝓛 𝓜 𝓡 wired Y L g d d' bound _ =
    let Z : Al = record { row = Y; laws = L; g = g; d = d; drops = d' } in let 𝓣 = tables 𝓤 𝓛.H 𝓜 𝓡 𝓡.env in
    let En = f.ended Y g d d' in let c = f.clauses Y g d d' 𝓛 𝓜.mem 𝓡.returns in let inst = bounded (a_type ∷ []) (Y, tt) (dcons d (dcons d' dnil)) in let fn = inst_fn inst code.function in
    let self = RefOf (0 ∷ []) tt (plain (λ _. holder Z)) (λ _. tt) in let word = plain (λ _. usize) in
    let hs : Stays En.signature.params En.kept = (stay_dropped self yes, (stay_dropped word yes, (stay_dropped word yes, tt))) in
    let fits : (y : _) (b o : ℕ) (v : Val) → v ≡ answer_val y b o → T (has_ty (layout Answer) v) × WT v = λ y b o v e. subst (λ (w : Val). T (has_ty (layout Answer) w) × WT w) (sym e) (Answer-typed y b o) in
    proved 𝓛 En hs c 𝓜 𝓡 (Goes-dropped 𝓛 2 self yes (λ κs x w. refl), (Goes-dropped 𝓛 2 word yes (λ κs x w. refl), (Goes-dropped 𝓛 2 word yes (λ κs x w. refl), tt)))
    (f.Key.name inst) fn (code.unfolded 𝓤 𝓛.H 𝓜 𝓡 wired (Y, tt) d d') (λ κs. (shr_vals, (uint_vals w64, (uint_vals w64, tt)))) (λ κs. (shr_Tells (named 0) κs.0 (holder Z), (uint_Tells w64, (uint_Tells w64, tt))))
    (λ κs qs bounds x τ are.
    let κ = κs.0 in let ρ = κs.1.0 in let q = qs.0 in let s = qs.1.0 in let out = bounds.0 in let r = x.0 in let n = x.1.0 in let a = x.1.1.0 in
    let y : (walk_of 𝓛 En hs c).Ghost = ((κs, qs, bounds, x, (shr_vals r, (vint w64 n ∷ [], (vint w64 a ∷ [], tt)))), τ) in
    let Fits : Type 0 = (capped (size τ) ≡ n) × (capped (align τ) ≡ a) in
    let ask = asks Z 𝓛 𝓜.mem 𝓡.returns κ ρ q s out r in
    qed 𝓛 ((tokens Z 𝓛 𝓜.mem 𝓡.returns κ ρ q s out r ⊛ lent Z 𝓛 𝓜.mem 𝓡.returns κ ρ q s out r ⊛ ‵ (owns (usize ∷ usize ∷ []) (n, (a, tt)) (vint w64 n ∷ [], (vint w64 a ∷ [], tt)))) ∷ (raw (fact 𝓤 (ρ ⊑ Y.lives)) ⊛ raw (fact 𝓤 Fits)) ∷ []) ∵
    move ! (1 ∷ []) $ split ! $ heard ! (ρ ⊑ Y.lives) (λ le. heard ! Fits (λ said. split3 ! $ keep ! (1 ∷ 0 ∷ []) $ join ! $
    enter ! _ _ _ _ _ $ alloc_all ! (λ l. pass_all ! refl ((tt, tt), ((tt, record { fits = are.1.0.1 }), ((tt, record { fits = are.1.1.0.1 }), tt))) $ let Ev = env fn.locals l in
    let Post = (walk_of 𝓛 En hs c).post y in let Then = any_q (after_seq 𝓤 𝓛.H (Wp 𝓤 𝓛.H 𝓣.C 𝓣.Λ Ev (after 2 fn.body) (at_return 𝓤 𝓛.H Ev Post)) (at_return 𝓤 𝓛.H Ev Post)) in
    let Ask = Handles Z 𝓛 𝓜.mem 𝓡.returns in let tokens_back = tokens Z 𝓛 𝓜.mem 𝓡.returns κ ρ q s out r in
    let ends : (v : Val) (res : Answer.Denot) → ent 𝓤 (⋆ 𝓛 (‵ (Answer.own_val res (v ∷ [])) ∷ ‵ (block_if_ok (frees_late (token Z) r.now) τ res) ∷ tokens_back ∷ [])) (Post v) =
    λ v res. qed 𝓛 (‵ (Answer.own_val res (v ∷ [])) ∷ ‵ (block_if_ok (frees_late (token Z) r.now) τ res) ∷ tokens_back ∷ []) ∵
    suffices ! _ (leaves 𝓛 En hs c y v res (tt, (tt, (tt, tt))) (tt, (tt, (tt, tt)))) $ nothing ! $ nothing ! $ fjoin ! $ nothing ! $ fjoin ! $ nothing ! $ fjoin ! $ move ! (3 ∷ 0 ∷ []) $ done ! in
    use1 𝓛 (raw (Ask.pre ask)) (asked Z 𝓛 𝓜.mem 𝓡.returns κ ρ q s out r le) $
    calls_at ! (framed 𝓤 𝓛.H 𝓜 𝓣) Ask (met 𝓤 𝓛 𝓜 𝓡 (code.calls-slot_chain::late_handle::LateHandle::handle 𝓡.env wired) Y L) ask (and_then ! (get ! refl) (no_more !)) (λ u.
    answered Z 𝓛 𝓜.mem 𝓡.returns κ ρ q s out r ! tt u
    (λ e none. lands_as ! e refl (none_fits Z) $ first ! $ switches_on ! (get_tag ! (vrt ! refl (fld ! refl (stop !))) (whole !)) $ exec ! 𝓣.C 𝓣.Λ Ev (arm_body 1 (front (after 1 fn.body))) Then $
    sets ! (agg ! (no_more !)) refl (tt, tt) $ sets_last ! (agg ! (and_then ! (lit ! tt) (and_then ! (get ! refl) (no_more !)))) refl (Answer-typed false 0 0) $
    exec ! 𝓣.C 𝓣.Λ Ev (after 2 fn.body) (at_ret Ev Post) $ sets ! (of_opd ! (get ! refl)) refl (Answer-typed false 0 0) $ returns ! (look_at ! 0 refl) $ free_all ! refl $
    nothing ! $ use0 𝓛 (‵ (Answer.own_val (Err (record {})) (answer_val false 0 0 ∷ []))) (Answer-err 𝓛) $ by ! (ends (answer_val false 0 0) (Err (record {}))))
    (λ h e one. let Take = Takes Z 𝓛 𝓜.mem 𝓡.returns in let ty = at_takes Z 𝓛 𝓜.mem 𝓡.returns κ q h.ref_ptr h.now n a τ in
    lands_as ! e refl (some_fits Z h) $ first ! $ switches_on ! (get_tag ! (vrt ! refl (fld ! refl (stop !))) (whole !)) $ exec ! 𝓣.C 𝓣.Λ Ev (arm_body 0 (front (after 1 fn.body))) Then $
    sets ! (of_opd ! (get_in ! (vrt ! refl (fld ! refl (stop !))) (in_variant ! 1 0 refl refl (whole !)))) refl (tt, tt) $
    -- [the `&` to the handle; the tokens]
    move ! (1 ∷ []) $ split3 ! $ move ! (3 ∷ 0 ∷ []) $
    use2 𝓛 (raw (Take.pre ty)) (Takes-goes Z 𝓛 𝓜.mem 𝓡.returns κ q h.ref_ptr h.now (⊑_trans κ ρ Y.lives out le) n a τ said.0 said.1 are.1.0.1 are.1.1.0.1) $
    calls_at_last ! (framed 𝓤 𝓛.H 𝓜 𝓣) Take (bound.allocate d') ty (and_then ! (get ! refl) (and_then ! (get ! refl) (and_then ! (get ! refl) (no_more !)))) (λ v.
    use1 𝓛 (later (raw (Answered Z 𝓛 𝓜.mem 𝓡.returns h.now τ v) ⊛ ‵ (flft κ q))) (Takes-gives Z 𝓛 𝓜.mem 𝓡.returns κ q h.ref_ptr h.now n a τ v) $ await ! tt $ split ! $
    answers Z ! 𝓜.mem 𝓡.returns h.now τ v
    (λ b o k. rewrite ! 1 (λ (hs : List Y.Denot). ‵ (frees_late (token Z) hs τ (block_ptr b o))) (sym one) refl $ fjoin ! $ move ! (1 ∷ 2 ∷ 3 ∷ []) $ group ! 3 $ let good = fits true b o v k in
    lands_last ! refl good $ exec ! 𝓣.C 𝓣.Λ Ev (after 2 fn.body) (at_ret Ev Post) $ sets ! (of_opd ! (get ! refl)) refl good $ returns ! (look_at ! 0 refl) $ free_all ! refl $ move ! (1 ∷ []) $
    use0 𝓛 (‵ (Answer.own_val (Ok (block_ptr b o)) (answer_val true b o ∷ []))) (Answer-Ok 𝓛 b o) $ rewrite ! 0 (λ (w : Val). ‵ (Answer.own_val (Ok (block_ptr b o)) (w ∷ []))) (sym k) refl $ by ! (ends v (Ok (block_ptr b o))))
    (λ k. group ! 3 $ let good = fits false 0 0 v k in
    lands_last ! refl good $ exec ! 𝓣.C 𝓣.Λ Ev (after 2 fn.body) (at_ret Ev Post) $ sets ! (of_opd ! (get ! refl)) refl good $ returns ! (look_at ! 0 refl) $ free_all ! refl $ nothing ! $
    use0 𝓛 (‵ (Answer.own_val (Err (record {})) (answer_val false 0 0 ∷ []))) (Answer-err 𝓛) $ rewrite ! 0 (λ (w : Val). ‵ (Answer.own_val (Err (record {})) (w ∷ []))) (sym k) refl $ by ! (ends v (Err (record {})))))))))))
