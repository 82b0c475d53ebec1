-- `empty` is null, and owns nothing. Assumes `Logic`.
use Rattle.slot_chain.proofs.Names.{[], ◌∷◌, refl, lit<, None, a_type, ftrue, ‵, raw, ◌⊛◌, ◌$◌, ◌∵◌, !, qed, keep, split, agg, lit, no_more, and_then, returns, enter, alloc_all, pass_all, free_all, look_at, sets, null_ptr, proved_at, ptr_val, vstruct, vcons, vnil, says, ends_at, suffices, done, group, alive, pure_i}
use Rattle.slot_chain.proofs.LinkSteps.{inst_fn, param, layouts, Lk}
use Rattle.slot_chain.specs.contracts.link.Link.empty as f
use Rattle.slot_chain.proofs.link.Link.empty.Statement.{statement}
use Rattle.slot_chain.proofs.link.Link.empty.Code as code

pub empty_spec : {M : Type 1} → statement M
empty_spec 𝓤 𝓛 𝓜 𝓡 wired T L =
    let c = f.clauses T 𝓛 𝓜.mem 𝓡.returns in let inst = layouts (a_type ∷ []) (T, tt) in
    proved_at 𝓛 (f.ended T) tt c 𝓜 𝓡 tt (f.Key.name inst) (inst_fn inst code.function) (code.unfolded 𝓤 𝓛.H 𝓜 𝓡 wired (T, tt)) (λ z are.
    let R = param 0 T in let w = vstruct (vcons (ptr_val null_ptr) vnil) in let d : (Lk R).Denot = record { at = null_ptr; value = None } in
    qed 𝓛 ((raw (alive 𝓛 (f.ended T).signature z.0.0 z.0.1) ⊛ ‵ ftrue) ∷ raw ((c z.0.0 z.0.3).requires z.1) ∷ []) ∵ split ! $
    enter ! _ _ _ _ _ $ alloc_all ! (λ l. pass_all ! refl tt $
    sets ! (agg ! (and_then ! (lit ! tt) (no_more !))) refl (tt, (record { fits = lit< tt }, tt)) $
    returns ! (look_at ! 0 refl) $ free_all ! refl $
    pure_i ! ((Lk R).own_val d (w ∷ [])) ((λ ps. (tt, (tt, tt))), tt) (((ptr_val null_ptr ∷ [], tt), (refl, (refl, tt))), tt) $
    keep ! (1 ∷ 2 ∷ 0 ∷ []) $ suffices ! _ (ends_at 𝓛 (f.ended T) tt c z w d tt tt) $ says ! refl $ group ! 3 $ done !))
