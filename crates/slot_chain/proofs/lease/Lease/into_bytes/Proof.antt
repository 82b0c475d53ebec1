-- `into_bytes` puts the two words together again, and what the lease owns is the slice. Assumes `Logic`.
use Rattle.slot_chain.proofs.Names.{◌≡◌, List, [], ◌∷◌, ◌++◌, length, refl, ap, ◌∙◌, proved_at, leaves, after, SProp, emp, ftrue, fact, fact_i, tables, named, Val, WpFn, ‵, raw, ◌⊛◌, prop, at_ret, ◌$◌, ◌∵◌, !, qed, by, move, drop, use0, split, join, fsplit, fjoin, regoal, rewrite, whole, sub, agg, enter, of_opd, stop, fld, no_more, and_then, first, blocks, exec, returns, alloc_all, pass_all, free_all, look_at, get, get_in, sets, sets_last, env, u8, shows, RattleType, owns, Ptr, block_ptr, plain, named_lft, types_at, MutSlice, nothing, peeks, alive, Stays, stay_dropped, Goes-dropped, walk_of}
use Rattle.slot_chain.specs.Leases.{slice_word, lease_owns}
use Rattle.slot_chain.specs.contracts.lease.Lease as lease_type
use Rattle.slot_chain.proofs.Words.{lease_val, lease_told, place_told}
use Rattle.slot_chain.specs.contracts.lease.Lease.into_bytes as f
use Rattle.slot_chain.proofs.lease.Lease.into_bytes.Statement.{statement}
use Rattle.slot_chain.proofs.lease.Lease.into_bytes.Code as code

abbrev stayed : Stays f.ended.signature.params f.ended.kept
stayed = (stay_dropped (plain (λ κs. lease_type.the_row (named_lft 1 0 tt κs))) f.ended.kept.0, tt)

pub into_bytes_spec : {M : Type 1} → statement M
into_bytes_spec 𝓤 𝓛 𝓜 𝓡 wired =
    let c = f.clauses 𝓛 𝓜.mem 𝓡.returns in let 𝓣 = tables 𝓤 𝓛.H 𝓜 𝓡 𝓡.env in
    proved_at 𝓛 f.ended stayed c 𝓜 𝓡 (Goes-dropped 𝓛 1 (plain (λ κs. lease_type.the_row (named_lft 1 0 tt κs))) f.ended.kept.0 (λ κs x w. refl), tt)
    f.Key.name code.function (code.unfolded 𝓤 𝓛.H 𝓜 𝓡 wired) (λ z are.
    let Post : Val → SProp 𝓤 = (walk_of 𝓛 f.ended stayed c).post z in
    let κs = z.0.0 in let κ = κs.0 in let a = z.0.3 in let vss = z.0.4 in
    let h = a.0 in let s = h.bytes in let b = s.ref_ptr.0 in let o = s.ref_ptr.1 in
    let S : RattleType = MutSlice (named 0) κ u8 in
    let told = lease_told h.at h.len vss.0 are.0.0 in
    qed 𝓛 ((raw (alive 𝓛 f.ended.signature κs z.0.1) ⊛ ‵ (owns (types_at f.ended.signature.params κs) a vss)) ∷ ‵ ftrue ∷ []) ∵ move ! (1 ∷ []) $ drop ! $ split ! $ move ! (1 ∷ []) $
    fsplit ! $ fsplit ! $ drop ! $ move ! (1 ∷ []) $ drop ! $
    -- [the slice; the token]
    peeks ! S _ (shows 𝓛 S) s (slice_word h.at h.len ∷ []) (λ is.
    let at : h.at ≡ block_ptr b o = place_told h.at h.len b o (length s.now) is.0.0 in
    rewrite ! 0 (λ (p : Ptr). ‵ (lease_owns κ p h.len s)) at refl $
    regoal ! (λ (us : List Val). prop (WpFn 𝓤 𝓛.H 𝓣.C 𝓣.Λ code.function us Post)) (λ i. (told.0 ∙ ap (λ (p : Ptr). lease_val p h.len ∷ []) at) i ++ []) refl $
    enter ! _ _ _ _ _ $ alloc_all ! (λ l. pass_all ! refl ((tt, (tt, (record { fits = told.1 }, (tt, tt)))), tt) $
    sets ! (of_opd ! (get_in ! (fld ! refl (stop !)) (sub ! 0 refl (whole !)))) refl (tt, tt) $
    sets ! (of_opd ! (get_in ! (fld ! refl (stop !)) (sub ! 1 refl (whole !)))) refl (tt, record { fits = told.1 }) $
    first ! $ blocks ! $
    sets_last ! (agg ! (and_then ! (get ! refl) (and_then ! (get ! refl) (no_more !)))) refl (tt, (tt, (record { fits = told.1 }, tt))) $
    exec ! 𝓣.C 𝓣.Λ (env code.Mir.locals l) (after 3 (code.function).body) (at_ret _ Post) $
    sets ! (of_opd ! (get ! refl)) refl (tt, (tt, (record { fits = told.1 }, tt))) $
    returns ! (look_at ! 0 refl) $ free_all ! refl $
    use0 𝓛 (raw (fact 𝓤 (s.ghost_name ≡ s.ghost_name))) (fact_i 𝓤 (s.ghost_name ≡ s.ghost_name) (emp 𝓤) refl) $
    use0 𝓛 (raw (fact 𝓤 (s.now ≡ s.now))) (fact_i 𝓤 (s.now ≡ s.now) (emp 𝓤) refl) $ join ! $ nothing ! $ nothing ! $ fjoin ! $
    -- [what is left of the lease; the clauses; the slice; the token]
    move ! (3 ∷ 0 ∷ 2 ∷ 1 ∷ []) $ by ! (leaves 𝓛 f.ended stayed c z (slice_word (block_ptr b o) h.len) s (tt, tt) (tt, tt)))))
