-- `left` has the pointer, and owns nothing. Assumes `Logic`.
use Rattle.slot_chain.proofs.Names.{RawPtr, Ptr, null_ptr, block_ptr, ptr_val, List, [], ◌∷◌, ◌++◌, refl, sym, subst, None, proved_at, a_type, Val, ent, id⊢, ftrue, flft, WpFn, tables, ‵, raw, ◌⊛◌, ◌$◌, ◌∵◌, !, qed, done, group, move, keep, drop, split, fsplit, fjoin, feq_l, suffices, no_more, and_then, returns, enter, alloc_all, pass_all, free_all, look_at, get, sets, agg, yes, RattleType, owns, types_at, plain, rawptr_Lawful, nothing, Stays, stay_dropped, walk_of, Goes-dropped, says, ends_at, vstruct, vcons, vnil, pure_i}
use mathlib.Core.Bool.{◌&&◌, true}
use mir.Syntax.{ty_ptr}
use mir.Val.{has_ty_of}
use lib.Dec.{T as Holds}
use Rattle.slot_chain.proofs.LinkSteps.{inst_fn, param, layouts, Lk}
use Rattle.slot_chain.specs.contracts.link.Link.left as f
use Rattle.slot_chain.proofs.link.Link.left.Statement.{statement}
use Rattle.slot_chain.proofs.link.Link.left.Code as code

fits_in : (p : Ptr) → Holds (has_ty_of ty_ptr (ptr_val p) && true)
fits_in null_ptr = tt
fits_in (block_ptr _ _) = tt

pub left_spec : {M : Type 1} → statement M
left_spec 𝓤 𝓛 𝓜 𝓡 wired T L =
    let 𝓣 = tables 𝓤 𝓛.H 𝓜 𝓡 𝓡.env in let En = f.ended T in let c = f.clauses T 𝓛 𝓜.mem 𝓡.returns in let inst = layouts (a_type ∷ []) (T, tt) in let fn = inst_fn inst code.function in
    let pointer = plain (λ _. RawPtr) in let hs : Stays En.signature.params En.kept = (stay_dropped pointer yes, tt) in
    proved_at 𝓛 En hs c 𝓜 𝓡 (Goes-dropped 𝓛 1 pointer yes (λ κs x f. refl), tt) (f.Key.name inst) fn (code.unfolded 𝓤 𝓛.H 𝓜 𝓡 wired (T, tt)) (λ z are.
    let R : RattleType = param 0 T in let p = z.0.3.0 in let word : Val = vstruct (vcons (ptr_val p) vnil) in let d : (Lk R).Denot = record { at = p; value = None } in
    let fits = ((rawptr_Lawful 𝓛).typed p _ refl).0 in let Post = (walk_of 𝓛 En hs c).post z in
    qed 𝓛 (((‵ (flft z.0.0.0 z.0.1.0) ⊛ ‵ ftrue) ⊛ ‵ (owns (types_at En.signature.params z.0.0) z.0.3 z.0.4)) ∷ raw ((c z.0.0 z.0.3).requires z.1) ∷ []) ∵ split ! $ move ! (1 ∷ []) $ fsplit ! $ feq_l ! (λ ws. drop ! $
    suffices ! (WpFn 𝓤 𝓛.H 𝓣.C 𝓣.Λ fn (ptr_val p ∷ []) Post) (subst (λ (us : List Val). ent 𝓤 (WpFn 𝓤 𝓛.H 𝓣.C 𝓣.Λ fn (ptr_val p ∷ []) Post) (WpFn 𝓤 𝓛.H 𝓣.C 𝓣.Λ fn (us ++ []) Post)) (sym ws) (id⊢ 𝓤 _)) $
    enter ! _ _ _ _ _ $ alloc_all ! (λ l. pass_all ! refl (fits, tt) $ sets ! (agg ! (and_then ! (get ! refl) (no_more !))) refl (fits_in p, (fits.1, tt)) $
    returns ! (look_at ! 0 refl) $ free_all ! refl $
    pure_i ! ((Lk R).own_val d (word ∷ [])) ((λ ps. (tt, (tt, tt))), tt) (((ptr_val p ∷ [], tt), (refl, (refl, tt))), tt) $
    nothing ! $ nothing ! $ fjoin ! $ move ! (2 ∷ []) $ keep ! (0 ∷ 1 ∷ 2 ∷ []) $
    suffices ! _ (ends_at 𝓛 En hs c z word d (tt, tt) (tt, tt)) $ says ! refl $ group ! 3 $ done !)))
