use Rattle.region_cut.proofs.Steps.{[], ◌∷◌, refl, proved, vunit, raw, ‵, ◌$◌, ◌∵◌, !, qed, done, drop, use0, feq_i, suffices, group, enter, of_opd, unit_lit, returns, alloc_all, pass_all, free_all, look_at, sets, nothing, on_entry, Stays, ends_at}
use Rattle.region_cut.specs.Laws.{WholeEndsJoined}
use Rattle.region_cut.proofs.Joined.{whole_law}
use Rattle.region_cut.specs.contracts.laws.whole_ends_joined as f
use Rattle.region_cut.proofs.laws.whole_ends_joined.Statement.{statement}
use Rattle.region_cut.proofs.laws.whole_ends_joined.Code as code

abbrev stayed : Stays f.ended.signature.params f.ended.kept
stayed = tt

pub whole_ends_joined_spec : {M : Type 1} → statement M
whole_ends_joined_spec 𝓤 𝓛 𝓜 𝓡 wired =
    let c = f.clauses 𝓛 𝓜.mem 𝓡.returns in
    proved 𝓛 f.ended stayed c 𝓜 𝓡 tt f.Key.name code.function (code.unfolded 𝓤 𝓛.H 𝓜 𝓡 wired)
    (λ κs. tt) (λ κs. tt) (λ κs qs bounds a n are.
    qed 𝓛 (raw (on_entry 𝓛 f.signature κs qs a tt) ∷ raw ((c κs a).requires n) ∷ []) ∵ drop ! $ drop ! $
    enter ! _ _ _ _ _ $ alloc_all ! (λ l. pass_all ! refl tt $
    sets ! (of_opd ! (unit_lit !)) refl (tt, tt) $
    returns ! (look_at ! 0 refl) $ free_all ! refl $
    suffices ! _ (ends_at 𝓛 f.ended stayed c ((κs, qs, bounds, a, tt), n) vunit tt tt tt) $
    use0 𝓛 (‵ WholeEndsJoined) (whole_law 𝓛) $
    feq_i ! _ (vunit ∷ []) _ refl $ nothing ! $ nothing ! $ group ! 3 $ done !))
