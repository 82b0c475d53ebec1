-- What was noted of a slice when it was let go is what it ends as: for the last step of a caller, from its `Endings` to its region.
use Rattle.std.proofs.Common.{◌≡◌, ℕ, ◌<◌, List, [], ◌∷◌, sym, ap, ◌∙◌, subst, refl}
use Rattle.std.specs.List.{Contains}
use Rattle.std.proofs.lemmas.List.{length-map, get_or-map}
use seplogic.Ra.Ura.{Ura}
use base.Logic.{ent}
use types.Logic.{Logic, sem}
use types.Kit.{‵, ◌⊛◌, ◌$◌, ◌∵◌, !, qed, drop, use1, split, rewrite, done}
use Rattle.region_cut.specs.Joins.{ends}
use Rattle.region_cut.specs.Endings.{Ended, name_at, IsKnown, Agrees, end_in, all_end_so}
use Rattle.region_cut.proofs.Resolved.{knows}

noted_known : (es : List Ended) (e : Ended) → Contains es e → IsKnown es e.name
noted_known es e there =
    (there.0, subst (λ (n : ℕ). there.0 < n) (sym (length-map es name_at)) there.1, get_or-map name_at es there.0 e e.name there.1 ∙ ap name_at there.2)

noted_end : (es : List Ended) (e : Ended) → Agrees es → Contains es e → end_in es e.name ≡ e.bytes
noted_end es e one there = subst (λ (f : Ended). end_in es f.name ≡ f.bytes) there.2 (one there.0 e there.1)

pub noted_ends : {M : Type 1} {𝓤 : Ura M} (𝓛 : Logic 𝓤) (es : List Ended) (e : Ended) → Agrees es → Contains es e
    → ent 𝓤 (sem 𝓛 (all_end_so es)) (sem 𝓛 (ends e.name e.bytes))
noted_ends 𝓛 es e one there =
    qed 𝓛 (‵ (all_end_so es) ∷ []) ∵
    use1 𝓛 (‵ (all_end_so es) ⊛ ‵ (ends e.name (end_in es e.name))) (knows 𝓛 es e.name (noted_known es e there)) $ split ! $ drop ! $
    rewrite ! 0 (λ (w : List ℕ). ‵ (ends e.name w)) (noted_end es e one there) refl $ done !
