-- The pool behind the pointer is lent for one call, and the bytes for good.
use Rattle.fustrevol_c.proofs.Steps.{◌≡◌, ℕ, List, [], ◌∷◌, ◌++◌, refl, w32, w64, proved, full_share, id⊢, emp, ftrue, flft, flent, fres, named, vint, tables, ‵, raw, ◌⊛◌, some, later, prop, at_ret, ◌$◌, ◌∵◌, !, qed, done, drop, move, keep, use0, use1, use2, use3, split, join, fsplit, fpick, fpack, pick, await, regoal, suffices, group, lft_new, lft_end, Body, enter, of_opd, addr, stop, no_more, and_then, first, blocks, exec, returns, alloc_all, pass_all, free_all, look_at, get, through, sets, sets_last, lands_as, env, WpFn, u32, u64, usize, yes, Is, shows, lends_ref, ref_back, mem, uint_Makes, uint_Lawful, uint_vals, uint_Tells, Ptr, RawPtr, block_ptr, lies_at, in_a_block, rawptr_vals, rawptr_Tells, MutRef, MutBor, mut_vals, plain, nothing, owned, peeks, calls_at, lasts, on_entry, triple_of, Stays, walk_of, stay_dropped, Goes-dropped, ends_at, framed}
use base.Fml.{Lft, fsep, feq}
use borrow.Rule.Slice.Shared.{parts-cells}
use Rattle.seated_desk.specs.Shelves.{Opens}
use types.Logic.{sem}
use base.Logic.{sep}
use contract.Monad.{fact}
use types.Kit.{show, frame}
use denote.Triple.Walked.{says}
use Rattle.std.proofs.Common.{arith, sym, subst, length, ◌<◌, ◌^◌, ◌*◌}
use denote.Array.{Array}
use denote.Builtin.{u8}
use denote.Lend.{lends_slice, Held}
use denote.RawPtr.Bytes.{bytes, bytes_apart}
use denote.Slice.{MutSlice, slice_val, Room}
use denote.Steps.{heard}
use types.Kit.{rewrite, feq_l}
use types.Part.{whole, sub, agg}
use types.Run.{fld, hop, from}
use types.ByLocal.{get_in, look_in_at}
use types.SemTy.{cells}
use contract.BorrowLft.{⊑_static}
use mir.Val.{vptr}
use Rattle.fustrevol_c.specs.Places.{pool_row as row}
use Rattle.fustrevol_c.specs.contracts.fv_pool_open_numbered as f
use Rattle.fustrevol_c.proofs.fv_pool_open_numbered.Statement.{statement}
use Rattle.fustrevol_c.proofs.fv_pool_open_numbered.Code as code
use Rattle.seated_desk.specs.contracts.pool.Pool.open as g
use Rattle.seated_desk.proofs.pool.Pool.open.Met.{met}

abbrev stayed : Stays f.ended.signature.params f.ended.kept
stayed = (stay_dropped _ yes, (stay_dropped _ yes, (stay_dropped _ yes, (stay_dropped _ yes, (stay_dropped _ yes, (stay_dropped _ yes, (stay_dropped _ yes, tt)))))))

pub fv_pool_open_numbered_spec : {M : Type 1} → statement M
fv_pool_open_numbered_spec 𝓤 𝓛 𝓜 𝓡 wired =
    let c = f.clauses 𝓛 𝓜.mem 𝓡.returns in let W = walk_of 𝓛 f.ended stayed c in let 𝓣 = tables 𝓤 𝓛.H 𝓜 𝓡 𝓡.env in
    let goes = Goes-dropped 𝓛 0 (plain (λ _. RawPtr)) yes (λ κs x w. refl) in
    proved 𝓛 f.ended stayed c 𝓜 𝓡 (Goes-dropped 𝓛 0 (plain (λ _. RawPtr)) yes (λ κs x w. refl), (Goes-dropped 𝓛 0 (plain (λ _. RawPtr)) yes (λ κs x w. refl), (Goes-dropped 𝓛 0 (plain (λ _. usize)) yes (λ κs x w. refl), (Goes-dropped 𝓛 0 (plain (λ _. u32)) yes (λ κs x w. refl), (Goes-dropped 𝓛 0 (plain (λ _. u32)) yes (λ κs x w. refl), (Goes-dropped 𝓛 0 (plain (λ _. u64)) yes (λ κs x w. refl), (Goes-dropped 𝓛 0 (plain (λ _. u64)) yes (λ κs x w. refl), tt)))))))
    f.Key.name code.function (code.unfolded 𝓤 𝓛.H 𝓜 𝓡 wired)
    (λ κs. (rawptr_vals, (rawptr_vals, (uint_vals w64, (uint_vals w32, (uint_vals w32, (uint_vals w64, (uint_vals w64, tt)))))))) (λ κs. (rawptr_Tells, (rawptr_Tells, (uint_Tells w64, (uint_Tells w32, (uint_Tells w32, (uint_Tells w64, (uint_Tells w64, tt)))))))) (λ κs qs bounds a before are.
    let n = before.0 in let s = before.1 in
    let size = a.1.1.0 in
    let allocators = a.1.1.1.0 in
    let bits = a.1.1.1.1.0 in
    let limit = a.1.1.1.1.1.0 in
    let number = a.1.1.1.1.1.1.0 in
    let y : Ptr → Ptr → W.Ghost = λ p r. ((κs, qs, bounds, (p, (r, (size, (allocators, (bits, (limit, (number, tt))))))), (rawptr_vals p, (rawptr_vals r, (uint_vals w64 size, (uint_vals w32 allocators, (uint_vals w32 bits, (uint_vals w64 limit, (uint_vals w64 number, tt)))))))), before) in
    qed 𝓛 (raw (on_entry 𝓛 f.signature κs qs a (y a.0 a.1.0).0.4) ∷ (‵ (lies_at row full_share a.0 s) ⊛ (‵ (lies_at (Array u8 size) full_share a.1.0 n) ⊛ raw (fact 𝓤 (size < 2 ^ 63)))) ∷ []) ∵ drop ! $ split ! $ move ! (1 ∷ []) $ split ! $ move ! (1 ∷ []) $ heard ! _ (λ low.
    let fits : size < 2 ^ 64 = omega arith in let room : size * 1 < 2 ^ 63 = omega arith in
    in_a_block ! a.1.0 (λ p. lies_at (Array u8 size) full_share p n) (id⊢ 𝓤 _) (λ b₂ o₂ e₂.
    use1 𝓛 (‵ (fsep (feq ℕ (length n) size) (bytes full_share n b₂ o₂))) (bytes_apart 𝓛 full_share size n b₂ o₂) $ fsplit ! $ feq_l ! (λ el.
    rewrite ! 0 (λ G. ‵ G) (parts-cells u8 full_share n b₂ o₂) refl $
    move ! (1 ∷ []) $
    in_a_block ! a.0 (λ p. lies_at row full_share p s) (id⊢ 𝓤 _) (λ b o e.
    regoal ! (λ p. prop (WpFn 𝓤 𝓛.H 𝓣.C 𝓣.Λ code.function (rawptr_vals p ++ (rawptr_vals a.1.0 ++ (vint w64 size ∷ (vint w32 allocators ∷ (vint w32 bits ∷ (vint w64 limit ∷ (vint w64 number ∷ ([])))))))) (W.post (y p a.1.0)))) e refl $
    regoal ! (λ p. prop (WpFn 𝓤 𝓛.H 𝓣.C 𝓣.Λ code.function (vptr b o ∷ (rawptr_vals p ++ (vint w64 size ∷ (vint w32 allocators ∷ (vint w32 bits ∷ (vint w64 limit ∷ (vint w64 number ∷ ([])))))))) (W.post (y (block_ptr b o) p)))) e₂ refl $
    let yy = y (block_ptr b o) (block_ptr b₂ o₂) in
    enter ! _ _ _ _ _ $ alloc_all ! (λ l. pass_all ! refl ((tt, tt), ((tt, tt), ((tt, record { fits = fits }), ((tt, record { fits = are.1.1.1.0.1 }), ((tt, record { fits = are.1.1.1.1.0.1 }), ((tt, record { fits = are.1.1.1.1.1.0.1 }), ((tt, record { fits = are.1.1.1.1.1.1.0.1 }), tt))))))) $
    -- [the pool; the bytes; the locals]
    first ! $ blocks ! $
    sets ! (of_opd ! (get ! refl)) refl (tt, tt) $
    sets_last ! (addr ! (through ! refl (stop !))) refl (tt, tt) $
    exec ! 𝓣.C 𝓣.Λ (env code.Mir.locals l) code.Mir.t-2 (at_ret (env (code.function).locals l) (W.post yy)) $
    sets ! (of_opd ! (get ! refl)) refl (tt, tt) $
    first ! $ blocks ! $
    sets_last ! (agg ! (and_then ! (get ! refl) (and_then ! (get ! refl) (no_more !)))) refl (tt, (tt, (record { fits = fits }, tt))) $
    exec ! 𝓣.C 𝓣.Λ (env code.Mir.locals l) code.Mir.t-4 (at_ret (env (code.function).locals l) (W.post yy)) $
    sets ! (of_opd ! (get ! refl)) refl (tt, (tt, (record { fits = fits }, tt))) $
    sets ! (addr ! (through ! refl (stop !))) refl (tt, tt) $
    sets ! (addr ! (from ! (fld ! refl (hop ! (look_in_at ! 9 (sub ! 0 refl (whole !))) (stop !))))) refl (tt, tt) $
    sets ! (agg ! (and_then ! (get ! refl) (and_then ! (get_in ! (fld ! refl (stop !)) (sub ! 1 refl (whole !))) (no_more !)))) refl (tt, (tt, (record { fits = fits }, tt))) $
    lft_new ! tt (λ α. let κ : Lft = α ∷ [] in move ! (2 ∷ []) $
    use1 𝓛 (later (some (λ (γ : ℕ). ‵ ((MutSlice (named 0) [] u8).own_val (record { ref_ptr = (b₂, o₂); ghost_name = γ; now = n }) (slice_val (b₂, o₂) (length n) ∷ [])) ⊛ ‵ (flent [] (Held u8 (length n) b₂ o₂ γ)))))
    (lends_slice 𝓛 u8 (named 0) [] n b₂ o₂ (subst (Room u8) (sym el) (fits, room))) $ await ! tt $ pick ! (λ γ₂. split ! $ move ! (1 ∷ []) $ drop ! $
    rewrite ! 0 (λ (m : ℕ). ‵ ((MutSlice (named 0) [] u8).own_val (record { ref_ptr = (b₂, o₂); ghost_name = γ₂; now = n }) (slice_val (b₂, o₂) m ∷ []))) el refl $
    -- [the slice; the token; the pool]
    move ! (2 ∷ []) $
    use1 𝓛 (later (some (λ (γ : ℕ). ‵ ((MutRef (named 0) κ row).own_val (record { ref_ptr = (b, o); ghost_name = γ; now = s }) (vptr b o ∷ [])) ⊛ ‵ (flent κ (Body (mem row) b o γ)))))
    (lends_ref 𝓛 row (named 0) κ s b o) $ await ! tt $ pick ! (λ γ. split ! $
    -- [the loan; what the lender keeps; the slice; the token]
    let G = triple_of 𝓛 g.signature (g.spec 𝓛 𝓜.mem 𝓡.returns) in
    let r : MutBor row.Denot = record { ref_ptr = (b, o); ghost_name = γ; now = s } in
    let r₂ : MutBor (List ℕ) = record { ref_ptr = (b₂, o₂); ghost_name = γ₂; now = n } in
    let z : G.Ghost = (((κ, ([], tt)), (full_share, (full_share, tt)), (⊑_static κ, tt), (r, (r₂, (allocators, (bits, (limit, (number, tt)))))), (mut_vals r, (slice_val (b₂, o₂) size ∷ [], (vint w32 allocators ∷ [], (vint w32 bits ∷ [], (vint w64 limit ∷ [], (vint w64 number ∷ [], tt))))))), tt) in
    nothing ! $ owned ! u64 _ (uint_Makes 𝓛 w64) number _ (refl, are.1.1.1.1.1.1.0.1) $ join ! $ owned ! u64 _ (uint_Makes 𝓛 w64) limit _ (refl, are.1.1.1.1.1.0.1) $ join ! $ owned ! u32 _ (uint_Makes 𝓛 w32) bits _ (refl, are.1.1.1.1.0.1) $ join ! $ owned ! u32 _ (uint_Makes 𝓛 w32) allocators _ (refl, are.1.1.1.0.1) $ join ! $ move ! (3 ∷ 0 ∷ []) $ join ! $ move ! (1 ∷ 0 ∷ []) $ join ! $
    nothing ! $ use0 𝓛 (‵ (flft [] full_share)) (𝓛.lfts.lft-nil full_share) $ join ! $ move ! (3 ∷ 0 ∷ []) $ join ! $ join ! $
    nothing ! $ move ! (1 ∷ 0 ∷ []) $ use2 𝓛 (raw (G.pre z)) (id⊢ 𝓤 _) $
    calls_at ! (framed 𝓤 𝓛.H 𝓜 (tables 𝓤 𝓛.H 𝓜 𝓡 𝓡.env)) G (met 𝓤 𝓛 𝓜 𝓡 (code.calls-seated_desk::pool::Pool::open 𝓡.env wired)) z
    (and_then ! (get ! refl) (and_then ! (get ! refl) (and_then ! (get ! refl) (and_then ! (get ! refl) (and_then ! (get ! refl) (and_then ! (get ! refl) (no_more !))))))) (λ v.
    use1 𝓛 (later (some (λ (u : ℕ). ((‵ (flft κ full_share) ⊛ (‵ (flft [] full_share) ⊛ ‵ ftrue)) ⊛ ‵ (u32.own_val u (v ∷ []))) ⊛
    some (λ (ws : row.Denot × (Unit {0} × (Unit {0} × (Unit {0} × (Unit {0} × (Unit {0} × Unit {0})))))). ‵ (lasts g.ended z.0.0 z.0.3 ws) ⊛ raw (fact 𝓤 (Opens number u s ws.0)))))) (id⊢ 𝓤 _) $
    await ! tt $ pick ! (λ u. split ! $ split ! $ split ! $ lft_end ! tt $ move ! (3 ∷ []) $ pick ! (λ ws. split ! $ move ! (1 ∷ []) $ heard ! _ (λ told. nothing ! $ move ! (1 ∷ 0 ∷ []) $ fsplit ! $ fsplit ! $
    -- [the pool's last value; its borrow; the rest; nothing; α is over; tokens; the result; what the lender keeps]
    move ! (4 ∷ 7 ∷ 0 ∷ []) $ use3 𝓛 (later (‵ (lies_at row full_share (block_ptr b o) ws.0))) (ref_back 𝓛 row κ γ ws.0 b o) $ await ! tt $
    move ! (5 ∷ []) $ peeks ! u32 _ (shows 𝓛 u32) u (v ∷ []) (λ is.
    lands_as ! refl refl ((uint_Lawful 𝓛 w32).typed u _ is).0 $
    returns ! (look_at ! 0 refl) $ free_all ! refl $ keep ! (0 ∷ 1 ∷ []) $
    suffices ! _ (ends_at 𝓛 f.ended stayed c yy v u (tt, (tt, (tt, (tt, (tt, (tt, (tt, tt))))))) (tt, (tt, (tt, (tt, (tt, (tt, (tt, tt)))))))) $
    nothing ! $ nothing ! $ join ! $ nothing ! $ join ! $ nothing ! $ join ! $ nothing ! $ join ! $ nothing ! $ join ! $ nothing ! $ join ! $ nothing ! $ join ! $ nothing ! $ group ! 3 $ frame ! $
    show ! (λ (t : row.Denot). sep 𝓤 (sem 𝓛 (lies_at row full_share (block_ptr b o) t)) (fact 𝓤 (Opens number u s t))) ws.0 $ says ! told $ done !))))))))))))))
