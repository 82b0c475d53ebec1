-- An empty body gives the names that its contract says.
use Rattle.region_cut.proofs.Steps.{[], ◌∷◌, ◌≡◌, List, refl, proved, emp, fact, fact_i, flft, ftrue, named, named_lft, Val, vstruct, vnil, RattleType, raw, ‵, ◌⊛◌, ◌$◌, ◌∵◌, !, qed, done, move, keep, use0, split, join, feq_i, fjoin, fpack, suffices, enter, no_more, agg, returns, alloc_all, pass_all, free_all, look_at, sets, nothing, within, shape, Valss, plain, yes, Stays, stay_dropped, Goes-dropped, ends_at}
use Rattle.std.proofs.Common.{map}
use denote.Builtin.{SliceRefOf}
use denote.Slice.{ShrSlice, shr_slice_vals, shr_slice_Tells}
use Rattle.region_cut.specs.Parts.{name_of}
use Rattle.region_cut.specs.contracts.part.Part as P
use Rattle.event_floor.specs.declared.part_names.PartNames.{PartNames}
use Rattle.event_floor.specs.contracts.part_names.PartNames as T
use Rattle.event_floor.specs.contracts.part_names.names_of as f
use Rattle.event_floor.proofs.part_names.names_of.Statement.{statement}
use Rattle.event_floor.proofs.part_names.names_of.Code as code

abbrev stayed : Stays f.ended.signature.params f.ended.kept
stayed = (stay_dropped (SliceRefOf (0 ∷ []) tt (plain (λ κs. P.the_row (named_lft 2 1 tt κs))) (λ _. tt)) yes, tt)

pub names_of_spec : {M : Type 1} → statement M
names_of_spec 𝓤 𝓛 𝓜 𝓡 wired =
    let c = f.clauses 𝓛 𝓜.mem 𝓡.returns in
    proved 𝓛 f.ended stayed c 𝓜 𝓡 (Goes-dropped 𝓛 2 (SliceRefOf (0 ∷ []) tt (plain (λ κs. P.the_row (named_lft 2 1 tt κs))) (λ _. tt)) yes (λ κs x f. refl), tt)
    f.Key.name code.function (code.unfolded 𝓤 𝓛.H 𝓜 𝓡 wired)
    (λ κs. (shr_slice_vals, tt)) (λ κs. (shr_slice_Tells (named 0) κs.0 (P.the_row (named_lft 2 1 tt κs)), tt)) (λ κs qs bounds a _ are.
    let x = a.0 in let len : _ = are.0.0.1.0 in
    let S : RattleType = ShrSlice (named 0) κs.0 (P.the_row (named_lft 2 1 tt κs)) in
    let d : PartNames = record { all = map name_of x.now } in
    let e : Val = vstruct vnil in
    qed 𝓛 (((‵ (flft κs.0 qs.0) ⊛ ‵ (flft κs.1.0 qs.1.0) ⊛ ‵ ftrue) ⊛ ‵ (S.own_val x (shr_slice_vals x)) ⊛ ‵ ftrue) ∷ ‵ ftrue ∷ []) ∵
    split ! $ keep ! (0 ∷ []) $
    enter ! _ _ _ _ _ $ alloc_all ! (λ l. pass_all ! refl ((tt, (tt, (record { fits = len }, tt))), tt) $
    sets ! (agg ! (no_more !)) refl (tt, tt) $
    returns ! (look_at ! 0 refl) $ free_all ! refl $
    suffices ! _ (ends_at 𝓛 f.ended stayed c ((κs, qs, bounds, a, (shr_slice_vals x, tt)), tt) e d (tt, tt) (tt, tt)) $
    nothing ! $ nothing ! $ feq_i ! (List Val) (e ∷ []) (e ∷ []) refl $ fjoin ! $ fpack ! (Valss []) (within (shape T.the_type) tt (e ∷ [])) tt $ fjoin ! $
    nothing ! $ nothing ! $ fjoin ! $ join ! $ move ! (1 ∷ 0 ∷ []) $ join ! $
    use0 𝓛 (raw (fact 𝓤 (d.all ≡ map name_of x.now))) (fact_i 𝓤 (d.all ≡ map name_of x.now) (emp 𝓤) refl) $ move ! (1 ∷ 0 ∷ []) $ join ! $ keep ! (0 ∷ []) $ done !))
