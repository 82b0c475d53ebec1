-- The desk's life notes what the region ends as, and that is said of the region's reference.
use Rattle.region_cut.proofs.Steps.{[], ◌∷◌, ◌≡◌, ℕ, List, refl, lit<, proved, id⊢, ftrue, flft, emp, named, fact, fact_i, tables, vint, ‵, raw, ◌⊛◌, some, later, ◌$◌, ◌∵◌, !, qed, done, move, keep, drop, use0, use1, split, join, fsplit, fjoin, fpick, pick, await, suffices, enter, addr, from, fld, hop, stop, no_more, and_then, agg, sub, whole, lit, returns, alloc_all, pass_all, free_all, look_at, look_in_at, get, get_in, sets, lands_as, u8, yes, no, RattleType, MutRef, mut_slice_vals, mut_slice_Tells, uint_vals, uint_Tells, plain, mut_slice_of, nothing, heard, peeks, shows, calls_at, lasts, Lasts, triple_of, Stays, stay_dropped, Goes-spent_slice, Goes-dropped, ends_at, framed, named_lft, Array}
use Rattle.std.specs.Int.{w8}
use mir.Val.{vnil}
use types.Match.{live}
use mathlib.Core.Option.{none}
use denote.Laws.{Is}
use denote.Follow.{follows_so}
use denote.Struct.Laws.{vals, tells}
use Rattle.std.specs.Prelude.{Bool, Option, None, ⊤}
use Rattle.std.specs.contracts.option.Option as OP
use Rattle.std.specs.contracts.alloc.Global as Gl
use Rattle.std.proofs.alloc.Global.TheLaws as GlLaws
use Rattle.std.proofs.Common.{sym, ap, subst}
use Rattle.std.specs.List.{Contains}
use Rattle.region_cut.specs.Joins.{ends}
use Rattle.region_cut.specs.contracts.endings.Endings as En
use Rattle.region_cut.proofs.endings.Endings.TheLaws as EnLaws
use Rattle.region_cut.specs.Endings.{Ended, EndingsState}
use Rattle.region_cut.proofs.Telling.{noted_ends}
use Rattle.desk_uses.specs.Used.{filled}
use Rattle.cut_uses.proofs.Made.{none_of}
use Rattle.desk_uses.proofs.Given.{ends_so}
use Rattle.desk_uses.specs.contracts.living.ended as f
use Rattle.desk_uses.proofs.living.ended.Statement.{statement}
use Rattle.desk_uses.proofs.living.ended.Code as code
use Rattle.desk_uses.specs.contracts.living.lived as g
use Rattle.desk_uses.proofs.living.lived.Met.{met}

abbrev stayed : Stays f.ended.signature.params f.ended.kept
stayed = (stay_dropped (mut_slice_of (0 ∷ []) tt (plain (λ _. u8))) no, (stay_dropped (plain (λ _. Gl.the_row)) yes, (stay_dropped (plain (λ _. u8)) yes, tt)))

pub ended_spec : {M : Type 1} → statement M
ended_spec 𝓤 𝓛 𝓜 𝓡 wired =
    let c = f.clauses 𝓛 𝓜.mem 𝓡.returns in
    proved 𝓛 f.ended stayed c 𝓜 𝓡 (Goes-spent_slice 𝓛 1 (0 ∷ []) tt (plain (λ _. u8)), (Goes-dropped 𝓛 1 (plain (λ _. Gl.the_row)) yes (λ κs x w. refl), (Goes-dropped 𝓛 1 (plain (λ _. u8)) yes (λ κs x w. refl), tt)))
    f.Key.name code.function (code.unfolded 𝓤 𝓛.H 𝓜 𝓡 wired)
    (λ κs. (mut_slice_vals, (vals Gl.the_type GlLaws.the_laws, (uint_vals w8, tt)))) (λ κs. (mut_slice_Tells (named 0) κs.0 u8, (tells Gl.the_type GlLaws.the_laws, (uint_Tells w8, tt)))) (λ κs qs bounds a _ are.
    let κ = κs.0 in let q = qs.0 in let s = a.0 in let x = a.1.1.0 in let len : _ = are.0.0.1.0 in let byte : _ = are.1.1.0.1 in
    let ℓ = named_lft 1 0 tt κs in let Q : RattleType = En.the_row ℓ in let LQ = EnLaws.the_row_laws ℓ in
    let S : RattleType = MutRef (named 0) κ u8 in
    let made : Option S.Denot = None in
    let P : List ℕ → Type 0 = λ new. (is_filled : Bool) × (new ≡ filled is_filled x s.now) in
    let G = triple_of 𝓛 g.signature (g.spec 𝓛 𝓜.mem 𝓡.returns) in
    let z : G.Ghost = ((κs, qs, bounds, a, (mut_slice_vals s, (vals Gl.the_type GlLaws.the_laws a.1.0, (vint w8 x ∷ [], tt)))), tt) in
    qed 𝓛 (raw (G.pre z) ∷ []) ∵
    enter ! _ _ _ _ _ $ alloc_all ! (λ l. pass_all ! refl ((tt, (tt, (record { fits = len }, tt))), ((tt, ((tt, tt), tt)), ((tt, record { fits = byte }), tt))) $
    sets ! (addr ! (from ! (fld ! refl (hop ! (look_in_at ! 1 (sub ! 0 refl (whole !))) (stop !))))) refl (tt, tt) $
    sets ! (agg ! (and_then ! (get ! refl) (and_then ! (get_in ! (fld ! refl (stop !)) (sub ! 1 refl (whole !))) (no_more !)))) refl (tt, (tt, (record { fits = len }, tt))) $
    calls_at ! (framed 𝓤 𝓛.H 𝓜 (tables 𝓤 𝓛.H 𝓜 𝓡 𝓡.env)) G (met 𝓤 𝓛 𝓜 𝓡 (code.calls-desk_uses::living::lived 𝓡.env wired)) z
    (and_then ! (get ! refl) (and_then ! (get ! refl) (and_then ! (get ! refl) (no_more !)))) (λ v.
    use1 𝓛 (later (some (λ (r : Q.Denot). ((‵ (flft κ q) ⊛ ‵ ftrue) ⊛ ‵ (Q.own_val r (v ∷ []))) ⊛
    some (λ (ws : Lasts g.ended z.0.0 z.0.3). ‵ (lasts g.ended z.0.0 z.0.3 ws) ⊛ raw (fact 𝓤 ((is_filled : Bool) × Contains r.known (record { name = s.ghost_name; bytes = filled is_filled x s.now }))))))) (id⊢ 𝓤 _) $
    await ! tt $ pick ! (λ r. split ! $ split ! $ split ! $ move ! (3 ∷ []) $ pick ! (λ ws. split ! $ drop ! $ heard ! _ (λ noted.
    -- [token; nothing; the endings]
    move ! (2 ∷ []) $ peeks ! Q (Is Q) (shows 𝓛 Q) r (v ∷ []) (λ i. lands_as ! refl refl ((LQ.lawful 𝓛).typed r (v ∷ []) i).0 $
    sets ! (agg ! (and_then ! (lit ! tt) (no_more !))) refl (tt, (record { fits = lit< tt }, tt)) $
    fpick ! (λ h. fsplit ! $ fpick ! (λ vss. fsplit ! $ drop ! $ fsplit ! $ fsplit ! $ drop ! $
    -- [the facts; the ties and nothing; nothing; token; nothing]
    let new : List ℕ = filled noted.0 x s.now in
    let e : Ended = record { name = s.ghost_name; bytes = new } in
    use1 𝓛 (‵ (ends s.ghost_name new)) (noted_ends 𝓛 h.0.known.all e h.1.1 (subst (λ (es : List Ended). Contains es e) (sym (ap (λ (t : EndingsState). t.known) h.1.0)) noted.1)) $
    use1 𝓛 (‵ (follows_so (Array u8 0) u8 s.ghost_name none (λ _ _. ⊤) P)) (ends_so 𝓛 P s.ghost_name new (noted.0, refl)) $
    -- [what it ends as; the ties and nothing; nothing; token; nothing]
    returns ! (look_at ! 0 refl) $ free_all ! refl $
    suffices ! _ (ends_at 𝓛 f.ended stayed c ((κs, qs, bounds, a, (mut_slice_vals s, (vals Gl.the_type GlLaws.the_laws a.1.0, (vint w8 x ∷ [], tt)))), tt) (live 0 vnil) None (tt, (tt, (tt, tt))) (tt, (tt, (tt, tt)))) $
    use0 𝓛 (‵ ((OP.the_row S).own_val None (live 0 vnil ∷ []))) (none_of 𝓛 S) $ nothing ! $ nothing ! $ fjoin ! $ nothing ! $ fjoin ! $ nothing ! $ fjoin ! $ join ! $ move ! (4 ∷ 5 ∷ []) $ join ! $ join ! $
    use0 𝓛 (raw (fact 𝓤 (made ≡ None))) (fact_i 𝓤 (made ≡ None) (emp 𝓤) refl) $
    move ! (2 ∷ 0 ∷ []) $ join ! $ move ! (1 ∷ 0 ∷ []) $ join ! $ keep ! (0 ∷ []) $ done !)))))))))
