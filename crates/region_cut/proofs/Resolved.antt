-- What chunks end as once it is known what their slots end as; and no slice ends in two ways.
use Rattle.std.proofs.Common.{◌≡◌, ℕ, ◌==◌, Bool, true, false, T, cond, subst, List, [], ◌∷◌, ◌++◌, map, slice_index_or, refl, sym, ap, ◌∙◌, arith}
use Rattle.std.specs.List.{All, flat_map}
use Rattle.std.proofs.lemmas.List.{append_assoc}
use Rattle.std.proofs.lemmas.List.Elements.{All-cons, All-head, All-tail, All-nil}
use Rattle.std.proofs.lemmas.Map.Made.{Contains-tail}
use Rattle.std.proofs.lemmas.Bool.{eq-eqb, eqb-true}
use seplogic.Ra.Ura.{Ura}
use base.Logic.{SProp, ent, sep, wand, guard, all_e, apply∗, emp, via}
use base.Fml.{GName}
use contract.Monad.{sep→conj}
use types.Logic.{Logic, sem}
use types.Kit.{‵, raw, ◌⊛◌, given, ◌$◌, ◌∵◌, !, qed, move, drop, use1, use2, split, join, fsplit, fjoin, rewrite, learn, check, done}
use types.Tokens.{res_dup}
use denote.Array.{Array}
use denote.Builtin.{u8}
use Rattle.region_cut.specs.Joins.{ends, ends_after}
use Rattle.region_cut.specs.Carved.{Carved, all_joined}
use Rattle.region_cut.specs.Endings.{Ended, name_at, IsKnown, HasKnownSlots, Agrees, end_in, ended_chunk, all_end_so}

not_true : (b : Bool) → b ≡ true → b ≡ false → ⊥
not_true b p q = subst T (sym p ∙ q) tt

unknown : (x : GName) → IsKnown [] x → ⊥
unknown x k = let low = k.1 in omega (arith, low)

-- each slice of this name ends as w
abbrev pub AreOne : GName → List ℕ → List Ended → Type 0
AreOne γ w es = All (λ (e : Ended). e.name ≡ γ → e.bytes ≡ w) es

agrees_after : (b : Bool) (e f : Ended) (es : List Ended) → e.name == f.name ≡ b → end_in es f.name ≡ f.bytes → (f.name ≡ e.name → f.bytes ≡ e.bytes)
    → cond b e.bytes (end_in es f.name) ≡ f.bytes
agrees_after true e f es q old new = sym (new (sym (eqb-true e.name f.name q)))
agrees_after false e f es q old new = old

agrees_cons : (e : Ended) (es : List Ended) → Agrees es → AreOne e.name e.bytes es → Agrees (e ∷ es)
agrees_cons e es old new =
    All-cons (λ (f : Ended). end_in (e ∷ es) f.name ≡ f.bytes) e es (ap (λ b. cond b e.bytes (end_in es e.name)) (eq-eqb e.name e.name refl))
    (λ k d low. agrees_after (e.name == (slice_index_or es k d).name) e (slice_index_or es k d) es refl (old k d low) (new k d low))

module _ {M : Type 1} {𝓤 : Ura M} (𝓛 : Logic 𝓤) where
  abbrev E : GName → List ℕ → SProp 𝓤
  E γ w = sem 𝓛 (ends γ w)

  abbrev Each : List Ended → SProp 𝓤
  Each es = sem 𝓛 (all_end_so es)

  pub joined_both : (cs ds : List Carved) → ent 𝓤 (sep 𝓤 (sem 𝓛 (all_joined cs)) (sem 𝓛 (all_joined ds))) (sem 𝓛 (all_joined (cs ++ ds)))
  unfolding all_joined
  joined_both [] ds = qed 𝓛 (‵ (all_joined []) ∷ ‵ (all_joined ds) ∷ []) ∵ drop ! $ done !
  joined_both (c ∷ cs) ds = qed 𝓛 (‵ (all_joined (c ∷ cs)) ∷ ‵ (all_joined ds) ∷ []) ∵ fsplit ! $ move ! (1 ∷ 2 ∷ []) $
      use2 𝓛 (‵ (all_joined (cs ++ ds))) (joined_both cs ds) $ move ! (1 ∷ 0 ∷ []) $ fjoin ! $ done !

  knows_by : (b : Bool) (e : Ended) (es : List Ended) (x : GName) → e.name == x ≡ b → IsKnown (e ∷ es) x
      → (IsKnown es x → ent 𝓤 (Each es) (sep 𝓤 (Each es) (E x (end_in es x))))
      → ent 𝓤 (Each (e ∷ es)) (sep 𝓤 (Each (e ∷ es)) (E x (cond b e.bytes (end_in es x))))
  unfolding all_end_so
  knows_by true e es x q k others = qed 𝓛 (‵ (all_end_so (e ∷ es)) ∷ []) ∵ fsplit ! $ res_dup ! $
      rewrite ! 0 (λ (γ : GName). ‵ (ends γ e.bytes)) (eqb-true e.name x q) refl $ move ! (1 ∷ 2 ∷ []) $ fjoin ! $ join ! $ done !
  knows_by false e es x q k others = qed 𝓛 (‵ (all_end_so (e ∷ es)) ∷ []) ∵ fsplit ! $ move ! (1 ∷ []) $
      use1 𝓛 (‵ (all_end_so es) ⊛ ‵ (ends x (end_in es x))) (others (Contains-tail e.name (map name_at es) x (λ p. not_true (e.name == x) (eq-eqb e.name x p) q) k)) $
      split ! $ move ! (2 ∷ 0 ∷ []) $ fjoin ! $ join ! $ done !

  pub knows : (es : List Ended) (x : GName) → IsKnown es x → ent 𝓤 (Each es) (sep 𝓤 (Each es) (E x (end_in es x)))
  knows [] x k = absurd (unknown x k)
  knows (e ∷ es) x k = knows_by (e.name == x) e es x refl k (knows es x)

  resolves : (es : List Ended) (γ : GName) (acc : List ℕ) (xs : List GName) (tail : List ℕ) → All (IsKnown es) xs
      → ent 𝓤 (sep 𝓤 (Each es) (sem 𝓛 (ends_after γ acc xs tail))) (sep 𝓤 (Each es) (E γ (acc ++ (flat_map (end_in es) xs ++ tail))))
  unfolding ends_after
  resolves es γ acc [] tail known = qed 𝓛 (‵ (all_end_so es) ∷ ‵ (ends_after γ acc [] tail) ∷ []) ∵ join ! $ done !
  resolves es γ acc (x ∷ xs) tail known =
      let v : List ℕ = end_in es x in let more : List ℕ = flat_map (end_in es) xs in
      let Next : List ℕ → SProp 𝓤 = λ z. wand 𝓤 (E x z) (sem 𝓛 (ends_after γ (acc ++ z) xs tail)) in
      qed 𝓛 (‵ (all_end_so es) ∷ ‵ (ends_after γ acc (x ∷ xs) tail) ∷ []) ∵
      use1 𝓛 (‵ (all_end_so es) ⊛ ‵ (ends x v)) (knows es x (All-head (IsKnown es) x xs known)) $ split ! $ move ! (2 ∷ []) $
      use1 𝓛 (raw (Next v)) (all_e 𝓤 Next v) $ move ! (2 ∷ 0 ∷ []) $
      use2 𝓛 (‵ (ends_after γ (acc ++ v) xs tail)) (apply∗ 𝓤 (E x v) (sem 𝓛 (ends_after γ (acc ++ v) xs tail))) $ move ! (1 ∷ 0 ∷ []) $
      use2 𝓛 (‵ (all_end_so es) ⊛ ‵ (ends γ ((acc ++ v) ++ (more ++ tail)))) (resolves es γ (acc ++ v) xs tail (All-tail (IsKnown es) x xs known)) $ split ! $ move ! (1 ∷ []) $
      rewrite ! 0 (λ (z : List ℕ). ‵ (ends γ z)) (append_assoc acc v (more ++ tail) ∙ ap (λ z. acc ++ z) (sym (append_assoc v more tail))) refl $
      move ! (1 ∷ 0 ∷ []) $ join ! $ done !

  -- the chunks come to what is known
  pub chunks_end : (es : List Ended) (cs : List Carved) → All (HasKnownSlots es) cs
      → ent 𝓤 (sep 𝓤 (Each es) (sem 𝓛 (all_joined cs))) (Each (map (ended_chunk es) cs ++ es))
  unfolding all_joined all_end_so
  chunks_end es [] known = qed 𝓛 (‵ (all_end_so es) ∷ ‵ (all_joined []) ∷ []) ∵ move ! (1 ∷ []) $ drop ! $ done !
  chunks_end es (c ∷ cs) known =
      qed 𝓛 (‵ (all_end_so es) ∷ ‵ (all_joined (c ∷ cs)) ∷ []) ∵ move ! (1 ∷ []) $ fsplit ! $ move ! (2 ∷ 0 ∷ []) $
      use2 𝓛 (‵ (all_end_so es) ⊛ ‵ (ends c.whole (flat_map (end_in es) c.taken ++ c.rest))) (resolves es c.whole [] c.taken c.rest (All-head (HasKnownSlots es) c cs known)) $ split ! $
      -- [what is known; the chunk; the other chunks]
      move ! (0 ∷ 2 ∷ []) $ use2 𝓛 (‵ (all_end_so (map (ended_chunk es) cs ++ es))) (chunks_end es cs (All-tail (HasKnownSlots es) c cs known)) $
      move ! (1 ∷ 0 ∷ []) $ fjoin ! $ done !

  one_end_by : (b : Bool) (e : Ended) (es : List Ended) (γ : GName) (w : List ℕ) → e.name == γ ≡ b → ent 𝓤 (sep 𝓤 (E γ w) (Each es)) (guard 𝓤 (AreOne γ w es) (sep 𝓤 (E γ w) (Each es)))
      → ent 𝓤 (sep 𝓤 (E γ w) (Each (e ∷ es))) (guard 𝓤 (AreOne γ w (e ∷ es)) (sep 𝓤 (E γ w) (Each (e ∷ es))))
  unfolding all_end_so
  one_end_by true e es γ w q each =
      let c = (Array u8 0).coded in
      qed 𝓛 (‵ (ends γ w) ∷ ‵ (all_end_so (e ∷ es)) ∷ []) ∵ res_dup ! $ move ! (2 ∷ []) $ fsplit ! $ res_dup ! $
      rewrite ! 0 (λ (n : GName). ‵ (ends n e.bytes)) (eqb-true e.name γ q) refl $ move ! (0 ∷ 3 ∷ []) $
      use2 𝓛 (given (c.code e.bytes ≡ c.code w) (raw (emp 𝓤))) (via 𝓤 _ (sep→conj 𝓤 (E γ e.bytes) (E γ w)) (𝓛.names.res_one γ (c.code e.bytes) (c.code w))) $ learn ! (λ same. drop ! $
      -- [e; the others; γ]
      move ! (2 ∷ 1 ∷ []) $ use2 𝓛 (given (AreOne γ w es) (‵ (ends γ w) ⊛ ‵ (all_end_so es))) each $ learn ! (λ others. split ! $
      move ! (2 ∷ 1 ∷ []) $ fjoin ! $ move ! (1 ∷ 0 ∷ []) $ join ! $
      check ! (All-cons (λ (f : Ended). f.name ≡ γ → f.bytes ≡ w) e es (λ _. c.inj e.bytes w same) others) $ done !))
  one_end_by false e es γ w q each =
      qed 𝓛 (‵ (ends γ w) ∷ ‵ (all_end_so (e ∷ es)) ∷ []) ∵ move ! (1 ∷ []) $ fsplit ! $ move ! (2 ∷ 1 ∷ []) $
      use2 𝓛 (given (AreOne γ w es) (‵ (ends γ w) ⊛ ‵ (all_end_so es))) each $ learn ! (λ others. split ! $
      move ! (2 ∷ 1 ∷ []) $ fjoin ! $ move ! (1 ∷ 0 ∷ []) $ join ! $
      check ! (All-cons (λ (f : Ended). f.name ≡ γ → f.bytes ≡ w) e es (λ p. absurd (not_true (e.name == γ) (eq-eqb e.name γ p) q)) others) $ done !)

  one_end : (es : List Ended) (γ : GName) (w : List ℕ) → ent 𝓤 (sep 𝓤 (E γ w) (Each es)) (guard 𝓤 (AreOne γ w es) (sep 𝓤 (E γ w) (Each es)))
  one_end [] γ w = qed 𝓛 (‵ (ends γ w) ∷ ‵ (all_end_so []) ∷ []) ∵ join ! $ check ! (All-nil (λ (e : Ended). e.name ≡ γ → e.bytes ≡ w)) $ done !
  one_end (e ∷ es) γ w = one_end_by (e.name == γ) e es γ w refl (one_end es γ w)

  pub agrees : (es : List Ended) → ent 𝓤 (Each es) (guard 𝓤 (Agrees es) (Each es))
  unfolding all_end_so
  agrees [] = qed 𝓛 (‵ (all_end_so []) ∷ []) ∵ check ! (All-nil (λ (e : Ended). end_in [] e.name ≡ e.bytes)) $ done !
  agrees (e ∷ es) =
      qed 𝓛 (‵ (all_end_so (e ∷ es)) ∷ []) ∵ fsplit ! $ move ! (1 ∷ []) $
      use1 𝓛 (given (Agrees es) (‵ (all_end_so es))) (agrees es) $ learn ! (λ old. move ! (1 ∷ 0 ∷ []) $
      use2 𝓛 (given (AreOne e.name e.bytes es) (‵ (ends e.name e.bytes) ⊛ ‵ (all_end_so es))) (one_end es e.name e.bytes) $ learn ! (λ new. split ! $ fjoin ! $
      check ! (agrees_cons e es old new) $ done !))
