-- Nothing is known, and nothing is needed for it.
use Rattle.region_cut.proofs.Steps.{[], ◌∷◌, ◌≡◌, List, refl, proved, emp, fact, fact_i, ftrue, Val, vstruct, vnil, raw, ‵, ◌⊛◌, ◌$◌, ◌∵◌, !, qed, done, move, keep, use0, join, feq_i, fjoin, fpack, suffices, enter, no_more, agg, returns, alloc_all, pass_all, free_all, look_at, sets, nothing, within, shape, Valss, Stays, ends_at}
use Rattle.region_cut.specs.Endings.{Ended, all_end_so, end_in}
use Rattle.std.proofs.lemmas.List.Elements.{All-nil}
use Rattle.region_cut.specs.declared.endings.known.Known.{Known}
use Rattle.region_cut.specs.contracts.endings.known.Known as T
use Rattle.region_cut.specs.contracts.endings.known.nothing as f
use Rattle.region_cut.proofs.endings.known.nothing.Statement.{statement}
use Rattle.region_cut.proofs.endings.known.nothing.Code as code

abbrev stayed : Stays f.ended.signature.params f.ended.kept
stayed = tt

pub nothing_spec : {M : Type 1} → statement M
unfolding all_end_so
nothing_spec 𝓤 𝓛 𝓜 𝓡 wired =
    let c = f.clauses 𝓛 𝓜.mem 𝓡.returns in
    proved 𝓛 f.ended stayed c 𝓜 𝓡 tt
    f.Key.name code.function (code.unfolded 𝓤 𝓛.H 𝓜 𝓡 wired)
    (λ κs. tt) (λ κs. tt) (λ κs qs bounds a _ are.
    let d : Known = record { all = []; agrees = All-nil (λ (e : Ended). end_in [] e.name ≡ e.bytes) } in
    let e : Val = vstruct vnil in
    qed 𝓛 ((‵ ftrue ⊛ ‵ ftrue) ∷ ‵ ftrue ∷ []) ∵
    enter ! _ _ _ _ _ $ alloc_all ! (λ l. pass_all ! refl tt $
    sets ! (agg ! (no_more !)) refl (tt, tt) $
    returns ! (look_at ! 0 refl) $ free_all ! refl $
    suffices ! _ (ends_at 𝓛 f.ended stayed c ((κs, qs, bounds, a, tt), tt) e d tt tt) $
    nothing ! $ nothing ! $ feq_i ! (List Val) (e ∷ []) (e ∷ []) refl $ fjoin ! $ fpack ! (Valss []) (within (shape T.the_type) tt (e ∷ [])) tt $ fjoin ! $
    nothing ! $ join ! $ nothing ! $ join ! $ use0 𝓛 (raw (fact 𝓤 (d.all ≡ []))) (fact_i 𝓤 (d.all ≡ []) (emp 𝓤) refl) $ move ! (1 ∷ 0 ∷ []) $ join ! $ keep ! (0 ∷ []) $ done !))
