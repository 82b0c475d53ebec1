-- The value is made, and written into the room.
use Rattle.fustrevol_c.proofs.Steps.{◌≡◌, ◌∙◌, sym, List, [], ◌∷◌, ◌++◌, refl, ap, full_share, id⊢, emp, ftrue, fat, flft, Val, vunit, tables, ‵, raw, ◌⊛◌, some, later, prop, at_ret, ◌$◌, ◌∵◌, !, qed, done, drop, move, keep, use0, use1, use2, split, join, fsplit, fpack, feq_i, pick, await, regoal, rewrite, suffices, group, enter, of_opd, unit_lit, stop, no_more, and_then, first, blocks, exec, returns, alloc_all, pass_all, free_all, look_at, get, through, sets, lands_as, env, WpFn, yes, Is, shows, lies_at, RawPtr, Ptr, block_ptr, in_a_block, rawptr_vals, plain, nothing, peeks, calls_at, lasts, triple_of, Stays, walk_of, stay_dropped, Goes-dropped, ends_at, framed}
use base.Logic.{SProp}
use contract.Monad.{fact}
use base.Fml.{froom}
use mir.Syntax.{Ty, named, erased}
use mir.Raw.{raw as bare}
use Rattle.seated_desk.specs.contracts.pool.Pool.{the_row}
use mir.Val.{vptr}
use types.Run.{assigns_last, init}
use denote.Memory.{lone, part_at}
use denote.RawPtr.{ptr_val}
use denote.Param.{layout}
use denote.RattleType.{RattleType, owns}
use denote.Signature.{types_at}
use borrow.Table.OneValue.{part_in_at}
use denote.Triple.Entry.{alive}
use Rattle.std.proofs.raw_atomic.Walks.{proved_at}
use Rattle.std.proofs.cell.Inside.{one}
use Rattle.std.specs.contracts.alloc.Global as heap
use Rattle.std.proofs.alloc.Global.TheLaws as heap_laws
use Rattle.seated_desk.proofs.pool.Pool.TheLaws as made_laws
use Rattle.fustrevol_c.specs.Places.{pool_row as row, pool_at, pool_room}
use Rattle.fustrevol_c.specs.contracts.fv_pool_init as f
use Rattle.fustrevol_c.proofs.fv_pool_init.Statement.{statement}
use Rattle.fustrevol_c.proofs.fv_pool_init.Code as code
use Rattle.seated_desk.specs.contracts.pool.Pool.new as g
use Rattle.seated_desk.proofs.pool.Pool.new.Met.{met}

-- the value's type as the code writes it
abbrev written : Ty
written = lone (the_row (record { mir = erased; lft = [] })).mir

abbrev stayed : Stays f.ended.signature.params f.ended.kept
stayed = (stay_dropped _ yes, (stay_dropped _ yes, tt))

pub fv_pool_init_spec : {M : Type 1} → statement M
fv_pool_init_spec 𝓤 𝓛 𝓜 𝓡 wired =
    let c = f.clauses 𝓛 𝓜.mem 𝓡.returns in let 𝓣 = tables 𝓤 𝓛.H 𝓜 𝓡 𝓡.env in
    let Z : RattleType = heap.the_row in
    proved_at 𝓛 f.ended stayed c 𝓜 𝓡 (Goes-dropped 𝓛 0 (plain (λ _. Z)) yes (λ κs x w. refl), (Goes-dropped 𝓛 0 (plain (λ _. RawPtr)) yes (λ κs x w. refl), tt))
    f.Key.name code.function (code.unfolded 𝓤 𝓛.H 𝓜 𝓡 wired) (λ z are.
    let Post : Val → SProp 𝓤 = (walk_of 𝓛 f.ended stayed c).post z in
    let a = z.0.3.0 in let p = z.0.3.1.0 in let vss = z.0.4 in
    let got = one (layout Z) vss.0 ((heap_laws.the_row_laws.lawful 𝓛).typed a vss.0 are.0) in let h : Val = got.0 in
    qed 𝓛 ((raw (alive 𝓛 f.ended.signature z.0.0 z.0.1) ⊛ ‵ (owns (types_at f.ended.signature.params z.0.0) z.0.3 vss)) ∷ ‵ (pool_room p) ∷ []) ∵ split ! $ move ! (1 ∷ []) $ fsplit ! $
    -- [the allocator; the pointer; the tokens; the room]
    rewrite ! 0 (λ (us : List Val). ‵ (Z.own_val a us)) got.1 refl $
    move ! (3 ∷ []) $ in_a_block ! p pool_room (id⊢ 𝓤 _) (λ b o e.
    regoal ! (λ (us : List Val). prop (WpFn 𝓤 𝓛.H 𝓣.C 𝓣.Λ code.function us Post)) (λ i. got.1 i ++ ((are.1.0 ∙ ap (λ (q : Ptr). ptr_val q ∷ []) e) i ++ [])) refl $
    enter ! _ _ _ _ _ $ alloc_all ! (λ l. pass_all ! refl (got.2, ((tt, tt), tt)) $
    -- [the room; the allocator; the pointer; the tokens; the locals]
    let G = triple_of 𝓛 g.signature (g.spec 𝓛 𝓜.mem 𝓡.returns) in
    let y : G.Ghost = ((([], tt), (full_share, tt), tt, (a, tt), (h ∷ [], tt)), tt) in
    nothing ! $ move ! (2 ∷ 0 ∷ []) $ join ! $ nothing ! $ use0 𝓛 (‵ (flft [] full_share)) (𝓛.lfts.lft-nil full_share) $ join ! $ join ! $
    nothing ! $ move ! (1 ∷ 0 ∷ []) $ use2 𝓛 (raw (G.pre y)) (id⊢ 𝓤 _) $
    calls_at ! (framed 𝓤 𝓛.H 𝓜 (tables 𝓤 𝓛.H 𝓜 𝓡 𝓡.env)) G (met 𝓤 𝓛 𝓜 𝓡 (code.calls-seated_desk::pool::Pool::new 𝓡.env wired)) y
    (and_then ! (get ! refl) (no_more !)) (λ v.
    use1 𝓛 (later (some (λ (u : row.Denot). ((‵ (flft [] full_share) ⊛ ‵ ftrue) ⊛ ‵ (row.own_val u (v ∷ []))) ⊛
    some (λ (ws : Unit {0} × Unit {0}). ‵ (lasts g.ended y.0.0 y.0.3 ws) ⊛ raw (fact 𝓤 ((u.allocators ≡ 0) × (u.shelf.items ≡ []) × (u.number ≡ 0) × (u.fault ≡ 0))))))) (id⊢ 𝓤 _) $
    await ! tt $ pick ! (λ u. split ! $ split ! $ drop ! $ move ! (1 ∷ []) $ drop ! $
    -- [the value; the room; ..]
    peeks ! row _ (shows 𝓛 row) u (v ∷ []) (λ is.
    let good = ((made_laws.the_row_laws (record { mir = named 1; lft = [] })).lawful 𝓛).typed u (v ∷ []) is in
    lands_as ! refl refl good.0 $
    first ! $ blocks ! $
    sets ! (of_opd ! (get ! refl)) refl (tt, tt) $
    sets ! (of_opd ! (get ! refl)) refl good.0 $
    move ! (1 ∷ []) $ use1 𝓛 (‵ (froom (bare (lone row.mir)) b o)) (𝓛.laws.room-raw (lone row.mir) b o) $ use1 𝓛 (‵ (froom written b o)) (𝓛.laws.raw-room written b o) $
    assigns_last ! (of_opd ! (get ! refl)) (through ! refl (stop !)) (init ! 0 refl good.0) $
    exec ! 𝓣.C 𝓣.Λ (env code.Mir.locals l) code.Mir.t-3 (at_ret (env (code.function).locals l) Post) $
    sets ! (of_opd ! (unit_lit !)) refl (tt, tt) $
    returns ! (look_at ! 0 refl) $ free_all ! refl $ move ! (0 ∷ 1 ∷ []) $ use2 𝓛 (‵ (part_at row full_share u b o)) (part_in_at 𝓛 row refl full_share u b o written refl v) $
    fpack ! row.Denot (λ t. lies_at row full_share (block_ptr b o) t) u $
    rewrite ! 0 (λ (q : Ptr). ‵ (pool_at q)) (sym e) refl $ keep ! (0 ∷ []) $
    suffices ! _ (ends_at 𝓛 f.ended stayed c z vunit tt (tt, (tt, tt)) (tt, (tt, tt))) $
    feq_i ! _ (vunit ∷ []) _ refl $ nothing ! $ nothing ! $ join ! $ nothing ! $ join ! $ nothing ! $ group ! 3 $ done !))))))
