-- What lies behind the pointer is lent for one call.
use Rattle.fustrevol_c.proofs.Steps.{◌≡◌, ◌∙◌, sym, ap, subst, ℕ, List, [], ◌∷◌, ◌++◌, refl, w32, w64, proved, full_share, id⊢, emp, ftrue, flft, flent, fres, named, vint, vunit, Val, tables, ‵, raw, ◌⊛◌, some, later, prop, at_ret, ◌$◌, ◌∵◌, !, qed, done, drop, move, keep, use0, use1, use2, use3, split, join, fsplit, fpick, fpack, feq_i, feq_l, pick, await, rewrite, regoal, suffices, group, lft_new, lft_end, Body, enter, of_opd, unit_lit, addr, stop, fld, hop, no_more, and_then, first, blocks, exec, returns, alloc_all, pass_all, free_all, look_at, get, through, sets, sets_last, lands_as, env, WpFn, u32, u64, usize, yes, Is, shows, lends_ref, ref_back, mem, uint_Makes, uint_Lawful, uint_vals, uint_Tells, Ptr, RawPtr, block_ptr, lies_at, in_a_block, rawptr_vals, rawptr_Tells, MutRef, MutBor, mut_vals, plain, nothing, owned, heard, peeks, calls_at, lasts, on_entry, triple_of, Stays, walk_of, stay_dropped, Goes-dropped, ends_at, framed}
use base.Fml.{Lft}
use contract.BorrowLft.{⊑_static}
use mir.Val.{vptr}
use Rattle.fustrevol_c.specs.Places.{allocator_row}
use Rattle.fustrevol_c.specs.contracts.fv_allocator_stat as f
use Rattle.fustrevol_c.proofs.fv_allocator_stat.Statement.{statement}
use Rattle.fustrevol_c.proofs.fv_allocator_stat.Code as code
use Rattle.seated_desk.specs.contracts.allocator_handle.AllocatorHandle.stat as g
use Rattle.seated_desk.proofs.allocator_handle.AllocatorHandle.stat.Met.{met}
use Rattle.seated_desk.specs.Stats.{TellsStat}
use types.Logic.{sem}
use base.Logic.{sep}
use contract.Monad.{fact}
use types.Kit.{show, frame}
use denote.Triple.Walked.{says}

abbrev stayed : Stays f.ended.signature.params f.ended.kept
stayed = (stay_dropped _ yes, (stay_dropped _ yes, tt))

pub fv_allocator_stat_spec : {M : Type 1} → statement M
fv_allocator_stat_spec 𝓤 𝓛 𝓜 𝓡 wired =
    let c = f.clauses 𝓛 𝓜.mem 𝓡.returns in let W = walk_of 𝓛 f.ended stayed c in let 𝓣 = tables 𝓤 𝓛.H 𝓜 𝓡 𝓡.env in
    proved 𝓛 f.ended stayed c 𝓜 𝓡 (Goes-dropped 𝓛 0 (plain (λ _. RawPtr)) yes (λ κs x w. refl), (Goes-dropped 𝓛 0 (plain (λ _. u32)) yes (λ κs x w. refl), tt))
    f.Key.name code.function (code.unfolded 𝓤 𝓛.H 𝓜 𝓡 wired)
    (λ κs. (rawptr_vals, (uint_vals w32, tt))) (λ κs. (rawptr_Tells, (uint_Tells w32, tt))) (λ κs qs bounds a n are.
    let which = a.1.0 in
    let y : Ptr → W.Ghost = λ p. ((κs, qs, bounds, (p, (which, tt)), (rawptr_vals p, (uint_vals w32 which, tt))), n) in
    qed 𝓛 (raw (on_entry 𝓛 f.signature κs qs a (y a.0).0.4) ∷ ‵ (lies_at allocator_row full_share a.0 n) ∷ []) ∵ drop ! $ let s = n in
    in_a_block ! a.0 (λ p. lies_at allocator_row full_share p s) (id⊢ 𝓤 _) (λ b o e.
    regoal ! (λ p. prop (WpFn 𝓤 𝓛.H 𝓣.C 𝓣.Λ code.function (rawptr_vals p ++ (vint w32 which ∷ ([]))) (W.post (y p)))) e refl $
    let yy = y (block_ptr b o) in
    enter ! _ _ _ _ _ $ alloc_all ! (λ l. pass_all ! refl ((tt, tt), ((tt, record { fits = are.1.0.1 }), tt)) $
    first ! $ blocks ! $
    sets ! (of_opd ! (get ! refl)) refl (tt, tt) $
    sets_last ! (addr ! (through ! refl (stop !))) refl (tt, tt) $
    exec ! 𝓣.C 𝓣.Λ (env code.Mir.locals l) code.Mir.t-2 (at_ret (env (code.function).locals l) (W.post yy)) $
    sets ! (of_opd ! (get ! refl)) refl (tt, tt) $
    sets ! (addr ! (through ! refl (stop !))) refl (tt, tt) $
    lft_new ! tt (λ α. let κ : Lft = α ∷ [] in move ! (1 ∷ []) $
    use1 𝓛 (later (some (λ (γ : ℕ). ‵ ((MutRef (named 0) κ allocator_row).own_val (record { ref_ptr = (b, o); ghost_name = γ; now = s }) (vptr b o ∷ [])) ⊛ ‵ (flent κ (Body (mem allocator_row) b o γ)))))
    (lends_ref 𝓛 allocator_row (named 0) κ s b o) $ await ! tt $ pick ! (λ γ. split ! $
    let G = triple_of 𝓛 g.signature (g.spec 𝓛 𝓜.mem 𝓡.returns) in
    let r : MutBor allocator_row.Denot = record { ref_ptr = (b, o); ghost_name = γ; now = s } in
    let z : G.Ghost = (((κ, ([], tt)), (full_share, (full_share, tt)), (⊑_static κ, tt), (r, (which, tt)), (mut_vals r, (vint w32 which ∷ [], tt))), tt) in
    nothing ! $ owned ! u32 _ (uint_Makes 𝓛 w32) which _ (refl, are.1.0.1) $ join ! $ move ! (1 ∷ 0 ∷ []) $ join ! $
    nothing ! $ use0 𝓛 (‵ (flft [] full_share)) (𝓛.lfts.lft-nil full_share) $ join ! $ move ! (3 ∷ 0 ∷ []) $ join ! $ join ! $
    nothing ! $ move ! (1 ∷ 0 ∷ []) $ use2 𝓛 (raw (G.pre z)) (id⊢ 𝓤 _) $
    calls_at ! (framed 𝓤 𝓛.H 𝓜 (tables 𝓤 𝓛.H 𝓜 𝓡 𝓡.env)) G (met 𝓤 𝓛 𝓜 𝓡 (code.calls-seated_desk::allocator_handle::AllocatorHandle::stat 𝓡.env wired)) z
    (and_then ! (get ! refl) (and_then ! (get ! refl) (no_more !))) (λ v.
    use1 𝓛 (later (some (λ (u : ℕ). ((‵ (flft κ full_share) ⊛ (‵ (flft [] full_share) ⊛ ‵ ftrue)) ⊛ ‵ (u64.own_val u (v ∷ []))) ⊛
    some (λ (ws : allocator_row.Denot × (Unit {0} × Unit {0})). ‵ (lasts g.ended z.0.0 z.0.3 ws) ⊛ raw (fact 𝓤 (TellsStat which u s ws.0)))))) (id⊢ 𝓤 _) $
    await ! tt $ pick ! (λ u. split ! $ split ! $ split ! $ lft_end ! tt $ move ! (3 ∷ []) $ pick ! (λ ws. split ! $ move ! (1 ∷ []) $ heard ! _ (λ told. nothing ! $ move ! (1 ∷ 0 ∷ []) $ fsplit ! $ fsplit ! $
    move ! (4 ∷ 7 ∷ 0 ∷ []) $ use3 𝓛 (later (‵ (lies_at allocator_row full_share (block_ptr b o) ws.0))) (ref_back 𝓛 allocator_row κ γ ws.0 b o) $ await ! tt $
    move ! (5 ∷ []) $ peeks ! u64 _ (shows 𝓛 u64) u (v ∷ []) (λ is.
    lands_as ! refl refl ((uint_Lawful 𝓛 w64).typed u _ is).0 $
    returns ! (look_at ! 0 refl) $ free_all ! refl $ keep ! (0 ∷ 1 ∷ []) $
    suffices ! _ (ends_at 𝓛 f.ended stayed c yy v u (tt, (tt, tt)) (tt, (tt, tt))) $
    nothing ! $ nothing ! $ join ! $ nothing ! $ join ! $ nothing ! $ group ! 3 $ frame ! $
    show ! (λ (t : allocator_row.Denot). sep 𝓤 (sem 𝓛 (lies_at allocator_row full_share (block_ptr b o) t)) (fact 𝓤 (TellsStat which u s t))) ws.0 $ says ! told $ done !))))))))))
