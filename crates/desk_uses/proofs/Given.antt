-- What a slice ends as is said in std's words, with what is known of it.
use Rattle.std.proofs.Common.{ℕ, [], ◌∷◌, List}
use Rattle.std.specs.Prelude.{⊤}
use seplogic.Ra.Ura.{Ura}
use base.Logic.{ent}
use base.Fml.{GName}
use mathlib.Core.Option.{none}
use denote.Follow.{follows_so, such_by, follows_by}
use denote.Array.{Array}
use denote.Builtin.{u8}
use Rattle.region_cut.specs.Joins.{ends}
use types.Logic.{Logic, sem}
use types.Kit.{‵, ◌$◌, ◌∵◌, !, qed, fpack, done}

module _ {M : Type 1} {𝓤 : Ura M} (𝓛 : Logic 𝓤) (P : List ℕ → Type 0) where
  pub ends_so : (γ : GName) (v : List ℕ) → P v
      → ent 𝓤 (sem 𝓛 (ends γ v)) (sem 𝓛 (follows_so (Array u8 0) u8 γ none (λ _ _. ⊤) P))
  unfolding such_by follows_by
  ends_so γ v p =
      let S : Type 0 = (s : (ℕ → List ℕ) × List ℕ) × (ℕ → ⊤) × P s.1 in
      let s : S = (((λ _. v), v), (λ _. tt), p) in
      qed 𝓛 (‵ (ends γ v) ∷ []) ∵ fpack ! S (λ (s : S). ends γ s.0.1) s $ done !
