-- `handle` at a call: what it is handed, and the two cases of what it answers. Assumes `Logic`.
--     holder, Handles, asks, asked        its parameter's row, its contract, that contract at one call, and what a caller hands it
--     none_val, some_val, some_fits       the machine values of its answer
--     answered                            a proof's step: a case for no handle, and a case for a handle, lent for as long as the holder is
use Rattle.std.proofs.Common.{◌≡◌, List, [], ◌∷◌, ◌++◌, Option, Some, None, ap, ◌∙◌, lit<, Bor}
use lib.Dec.{T}
use seplogic.Ra.Ura.{Ura}
use mir.Syntax.{Callee, a_type, named}
use mir.Val.{Val, vptr, of_list, has_ty, WT}
use base.Logic.{SProp, ent, emp, id⊢}
use base.Fml.{Lft, Share, ftrue, fsep, flft}
use prog.Memory.{Memory}
use prog.Routine.{Routine}
use types.Logic.{Logic}
use types.Match.{live}
use types.Kit.{Goal, Seq, Item, Soaks, mean, ‵, raw, ◌⊛◌, some, later, given, ◌$◌, ◌∵◌, !, qed, move, drop, use0, use1, split, join, pick, learn, fsplit, fjoin, fpick, feq_l, await, done}
use contract.BorrowLft.{◌⊑◌}
use contract.Monad.{Fun, fact, fact_i}
use denote.RattleType.{RattleType}
use denote.Param.{layout, layouts, param}
use denote.Ref.{ShrRef, shr_vals}
use denote.Steps.{only, nothing}
use denote.Triple.Statement.{Contract}
use denote.Triple.Spec.{triple_of}
use Rattle.std.specs.Prelude.{MatchOption}
use Rattle.std.specs.contracts.option.Option as answer
use Rattle.std.proofs.alloc.Calls.{Al, seen}
use Rattle.slot_chain.specs.declared.late_handle.LateHandle.{LateHandle}
use Rattle.slot_chain.specs.contracts.late_handle.LateHandle as late
use Rattle.slot_chain.specs.contracts.late_handle.LateHandle.handle as f

abbrev pub none_val : Val
none_val = live 0 (of_list [])

abbrev pub some_val : {X : Type 0} → Bor X → Val
some_val h = live 1 (of_list (vptr h.ref_ptr.0 h.ref_ptr.1 ∷ []))

module _ (Z : Al) where
  abbrev pub holder : RattleType
  holder = late.the_row (param 0 Z.row)

  abbrev pub key : Callee
  key = f.Key.name (layouts (a_type ∷ []) (Z.row, tt))

  abbrev Lends : Lft → RattleType
  Lends κ = answer.the_row (ShrRef (named 0) κ (param 0 Z.row))

  pub none_fits : T (has_ty (layout (Lends [])) none_val) × WT none_val
  none_fits = (tt, (record { fits = lit< tt }, tt))

  pub some_fits : (h : Bor Z.row.Denot) → T (has_ty (layout (Lends [])) (some_val h)) × WT (some_val h)
  some_fits h = (tt, (record { fits = lit< tt }, (tt, tt)))

module _ (Z : Al) {M : Type 1} {𝓤 : Ura M} (𝓛 : Logic 𝓤) (at_mem : Memory → SProp 𝓤) (run : Routine → Fun 𝓤) where
  abbrev pub Handles : Contract 𝓤
  Handles = triple_of 𝓛 (f.signature Z.row) (f.spec Z.row 𝓛 at_mem run)

module _ (Z : Al) {M : Type 1} {𝓤 : Ura M} (𝓛 : Logic 𝓤) (at_mem : Memory → SProp 𝓤) (run : Routine → Fun 𝓤) (κ ρ : Lft) (q s : Share) (out : κ ⊑ ρ) (r : Bor (LateHandle Z.row.Denot)) where
  abbrev pub asks : (Handles Z 𝓛 at_mem run).Ghost
  asks = (((κ, (ρ, tt)), (q, (s, tt)), (out, tt), (r, tt), (shr_vals r, tt)), tt)

  abbrev pub tokens : Item 𝓤
  tokens = ‵ (flft κ q) ⊛ ‵ (flft ρ s) ⊛ ‵ ftrue

  abbrev pub lent : Item 𝓤
  lent = ‵ ((ShrRef (named 0) κ (holder Z)).own_val r (shr_vals r))

  pub asked : ρ ⊑ Z.row.lives → ent 𝓤 (mean 𝓛 (lent ⊛ tokens)) ((Handles Z 𝓛 at_mem run).pre asks)
  asked le = qed 𝓛 ((lent ⊛ tokens) ∷ []) ∵ split ! $ nothing ! $ move ! (1 ∷ 0 ∷ []) $ fjoin ! $ move ! (1 ∷ 0 ∷ []) $ join ! $
      nothing ! $ use0 𝓛 (raw (fact 𝓤 (ρ ⊑ Z.row.lives))) (fact_i 𝓤 (ρ ⊑ Z.row.lives) (emp 𝓤) le) $ join ! $ move ! (1 ∷ 0 ∷ []) $ done !

  abbrev Told : Option (Bor Z.row.Denot) → Item 𝓤
  Told o = some (λ (ws : Unit {0} × Unit {0}). ‵ (fsep ftrue ftrue) ⊛ given (MatchOption o (r.now ≡ []) (λ h. r.now ≡ h.now ∷ [])) (‵ ftrue))

  module _ {K : Type 0} {Γ : List (Item 𝓤)} {G : Goal 𝓤 𝓛.H} (t : K) (z : Soaks G) (v : Val)
      (absent : v ≡ none_val → r.now ≡ [] → Seq K 𝓛 (tokens ∷ Γ) G)
      (present : (h : Bor Z.row.Denot) → v ≡ some_val h → r.now ≡ h.now ∷ [] → Seq K 𝓛 (‵ (seen Z κ h.ref_ptr h.now) ∷ tokens ∷ Γ) G) where
    case : (o : Option (Bor Z.row.Denot)) → Seq K 𝓛 (‵ ((Lends Z κ).own_val o (v ∷ [])) ∷ Told o ∷ tokens ∷ Γ) G
    case None = fpick t (λ us. fsplit t $ feq_l t (λ e. fpick t (λ vss. fsplit t $ feq_l t (λ e'. drop t $
        pick t (λ ws. split t $ drop t $ learn t (λ k. drop t $ absent (ap only e ∙ ap (λ (ws : List Val). live 0 (of_list ws)) e') k))))))
    case (Some h) = fpick t (λ us. fsplit t $ feq_l t (λ e. fpick t (λ vss. fsplit t $ feq_l t (λ e'. fsplit t $ fsplit t $ feq_l t (λ e''. move t (2 ∷ []) $
        pick t (λ ws. split t $ drop t $ learn t (λ k. drop t $ move t (1 ∷ []) $ drop t $
        present h (ap only e ∙ ap (λ (ws : List Val). live 1 (of_list ws)) (e' ∙ ap (λ (ws : List Val). ws ++ []) e'')) k)))))))

    pub answered : Seq K 𝓛 (raw ((Handles Z 𝓛 at_mem run).post asks v) ∷ Γ) G
    answered = use1 𝓛 (later (some (λ (o : Option (Bor Z.row.Denot)). (tokens ⊛ ‵ ((Lends Z κ).own_val o (v ∷ []))) ⊛ Told o))) (id⊢ 𝓤 _) $ await t z $ pick t (λ o.
        split t $ split t $ move t (1 ∷ 2 ∷ []) $ case o)
