-- Parts that were put into slots, in order.
use Rattle.std.proofs.Common.{◌≡◌, ℕ, zero, suc, List, [], ◌∷◌, ◌++◌, map, length, Option, Some, refl, sym, ap, ◌∙◌, subst, append-nil}
use Rattle.std.proofs.lemmas.List.{length-map}
use Rattle.std.specs.Prelude.{slice_get}
use Rattle.region_cut.specs.declared.part.Part.{Part}
use Rattle.chunk_stock.specs.Rule.{AreInPlace, AreNumbered, HasChunk}

get-wrapped : (ps : List Part) (k : ℕ) (x : Option Part) → slice_get (map (λ p. Some p) ps) k ≡ Some x → (p : Part) × (x ≡ Some p) × (slice_get ps k ≡ Some p)
get-wrapped [] k x e = absurd (cc)
get-wrapped (p ∷ ps) zero x e = (p, cc, refl)
get-wrapped (p ∷ ps) (suc k) x e = get-wrapped ps k x e

pub all_placed : (ps done rest : List Part) (slots : List (Option Part)) → slots ≡ map (λ p. Some p) done → done ++ rest ≡ ps → rest ≡ []
    → AreNumbered ps → AreInPlace slots × (length slots ≡ length ps)
all_placed ps done rest slots e joined none numbered =
    let d : done ≡ ps = sym (append-nil done) ∙ sym (ap (λ r. done ++ r) none) ∙ joined in
    let s : slots ≡ map (λ p. Some p) ps = e ∙ ap (λ l. map (λ p. Some p) l) d in (
      λ k x at.
          let w = get-wrapped ps k x (subst (λ l. slice_get l k ≡ Some x) s at) in
          subst (λ y. HasChunk k y) (sym w.1) (numbered k w.0 w.2),
      ap length s ∙ length-map ps (λ p. Some p),
    )
