-- The ghost steps of tokens. Each opens the invariant round updates of accounts. Assumes `Logic`.
use Rattle.std.proofs.Common.{◌≡◌, ℕ, List, [], ◌∷◌, ◌++◌, set, arith}
use mathlib.Core.Option.{some}
use lib.ListN.{get_elem?}
use seplogic.Ra.Ura.{Ura}
use base.Logic.{SProp, ent, sep, ex, all, emp, guard, upd, upd_i, all_e}
use base.Fml.{Fml, ftrue, fex, finv}
use types.Logic.{Logic, sem}
use types.Kit.{‵, raw, ◌⊛◌, given, later, ◌$◌, ◌∵◌, !, qed, by, move, keep, split, join, fsplit, fjoin, fpick, fpack, pick, learn, suffices, done, use1, use2, use0, settle, frame, check, assume, show, each, await, updating, now}
use types.Kit as Kit
use denote.Steps as Denote
use Rattle.atomic_table.specs.Seated.{roster}
use Rattle.atomic_table.proofs.Roster.{Moved, moves, Joined, joins}
use Rattle.atomic_table.proofs.Marking as Marking
use Rattle.loan_ledger.specs.Accounts.{Account, account, nothing, whole, account_coded, IsKept, Trades, Learns}
use Rattle.loan_ledger.specs.Tokens.{kept, Inner, owned, token_owns}
use Rattle.loan_ledger.proofs.Keeps as keeps

module _ {M : Type 1} {𝓤 : Ura M} (𝓛 : Logic 𝓤) where
  open 𝓛 use {H, A}

  abbrev ⟦◌⟧ : Fml → SProp 𝓤
  ⟦ P ⟧ = sem 𝓛 P

  abbrev ◌∗◌ : SProp 𝓤 → SProp 𝓤 → SProp 𝓤
  P ∗ Q = sep 𝓤 P Q

  abbrev ◌⊢◌ : SProp 𝓤 → SProp 𝓤 → Type 1
  P ⊢ Q = ent 𝓤 P Q

  infix 26 ◌⊢◌
  infixr 35 ◌∗◌
  module _ (γ : ℕ) where
    abbrev I : Fml
    I = Inner γ

    abbrev all_of : List Account → Fml
    all_of vs = roster account_coded.code γ 0 vs

    abbrev mine : ℕ → Account → Fml
    mine i v = owned γ v i

    closed : (vs : List Account) → IsKept vs → ⟦ all_of vs ⟧ ⊢ ⟦ I ⟧
    closed vs ok = qed 𝓛 (‵ (all_of vs) ∷ []) ∵ Denote.nothing ! $ fpack ! (IsKept vs) (λ _. ftrue) ok $ move ! (1 ∷ 0 ∷ []) $ fjoin ! $ fpack ! (List Account) (kept γ) vs $ done !

    inside : (X Q : SProp 𝓤) → ((vs : List Account) → IsKept vs → ⟦ all_of vs ⟧ ∗ X ⊢ upd 𝓤 (⟦ I ⟧ ∗ Q)) → A.inv I ∗ X ⊢ H.⇛ Q
    inside X Q k = qed 𝓛 (‵ (finv I) ∷ raw X ∷ []) ∵ suffices ! _ (𝓛.invs.inv_acc I Q) $ frame ! $ assume ! (‵ I) $ fpick ! (λ vs. fsplit ! $ move ! (1 ∷ []) $ fpick ! (λ ok. Kit.drop ! $ by ! (k vs ok)))

    packed : (i : ℕ) (v : Account) → A.inv I ∗ ⟦ mine i v ⟧ ⊢ ⟦ token_owns γ v ⟧
    unfolding token_owns
    packed i v = qed 𝓛 (‵ (finv I) ∷ ‵ (mine i v) ∷ []) ∵ move ! (1 ∷ []) $ fpack ! ℕ (owned γ v) i $ move ! (1 ∷ 0 ∷ []) $ done !

    abbrev twice : A.inv I ⊢ A.inv I ∗ A.inv I
    twice = 𝓛.invs.inv_dup I

    -- a new token
    pub grows : (v : Account) → ⟦ token_owns γ v ⟧ ⊢ H.⇛ (⟦ token_owns γ v ⟧ ∗ ⟦ token_owns γ nothing ⟧)
    unfolding token_owns
    grows v = let S : Fml = token_owns γ v in let New : Fml = fex ℕ (owned γ nothing) in
        qed 𝓛 (‵ S ∷ []) ∵ updating ! $ fsplit ! $ use1 𝓛 (‵ (finv I) ⊛ ‵ (finv I)) twice $ split ! $ use1 𝓛 (‵ (finv I) ⊛ ‵ (finv I)) twice $ split ! $
        Denote.nothing ! $ move ! (1 ∷ 0 ∷ []) $ use2 𝓛 (later (‵ New)) (inside ⟦ ftrue ⟧ ⟦ New ⟧ (λ vs ok. qed 𝓛 (‵ (all_of vs) ∷ ‵ ftrue ∷ []) ∵ Kit.keep ! (0 ∷ []) $
        use1 𝓛 (raw (upd 𝓤 (ex 𝓤 (Joined 𝓛 account_coded γ 0 vs nothing)))) (joins 𝓛 account_coded γ vs 0 nothing) $
        settle 𝓛 (⟦ I ⟧ ∗ ⟦ New ⟧) (Kit.some (λ (j : ℕ). ‵ (all_of (vs ++ nothing ∷ [])) ⊛ ‵ (mine j nothing))) $ pick ! (λ j. split ! $
        use1 𝓛 (‵ I) (closed (vs ++ nothing ∷ []) (keeps.grows vs ok)) $ suffices ! _ (upd_i 𝓤 (⟦ I ⟧ ∗ ⟦ New ⟧)) $ frame ! $ fpack ! ℕ (owned γ nothing) j $ done !))) $
        await ! tt $ now ! $ move ! (1 ∷ 3 ∷ []) $ fjoin ! $ frame ! $ move ! (1 ∷ 0 ∷ []) $ done !

    -- two tokens change, and the first one learns what the rule tells it
    pub trades : (v w v' w' : Account) → Trades v w v' w'
        → ⟦ token_owns γ v ⟧ ∗ ⟦ token_owns γ w ⟧ ⊢ H.⇛ (guard 𝓤 (Learns v) (⟦ token_owns γ v' ⟧ ∗ ⟦ token_owns γ w' ⟧))
    unfolding token_owns
    trades v w v' w' t = qed 𝓛 (‵ (token_owns γ v) ∷ ‵ (token_owns γ w) ∷ []) ∵ updating ! $ fsplit ! $ move ! (1 ∷ []) $ fpick ! (λ i. move ! (2 ∷ []) $ fsplit ! $ move ! (1 ∷ []) $ fpick ! (λ j.
        let Q : SProp 𝓤 = guard 𝓤 (Learns v) (⟦ mine i v' ⟧ ∗ ⟦ mine j w' ⟧) in
        move ! (2 ∷ 0 ∷ []) $ join ! $ move ! (1 ∷ []) $ use1 𝓛 (‵ (finv I) ⊛ ‵ (finv I)) twice $ split ! $ move ! (0 ∷ 2 ∷ []) $
        use2 𝓛 (later (given (Learns v) (‵ (mine i v') ⊛ ‵ (mine j w')))) (inside (⟦ mine i v ⟧ ∗ ⟦ mine j w ⟧) Q (λ vs ok.
        let vs₁ = set vs i v' in let vs₂ = set vs₁ j w' in
        qed 𝓛 (‵ (all_of vs) ∷ ‵ (mine i v) ∷ ‵ (mine j w) ∷ []) ∵
        use2 𝓛 (given (get_elem? vs i ≡ some v) (raw (all 𝓤 (Moved 𝓛 account_coded γ 0 vs i i)))) (moves 𝓛 account_coded γ vs 0 i i v (omega arith)) $ learn ! (λ at.
        use1 𝓛 (raw (Moved 𝓛 account_coded γ 0 vs i i v')) (all_e 𝓤 (Moved 𝓛 account_coded γ 0 vs i i) v') $
        settle 𝓛 (⟦ I ⟧ ∗ Q) (‵ (all_of vs₁) ⊛ ‵ (mine i v')) $ split ! $ move ! (0 ∷ 2 ∷ []) $
        use2 𝓛 (given (get_elem? vs₁ j ≡ some w) (raw (all 𝓤 (Moved 𝓛 account_coded γ 0 vs₁ j j)))) (moves 𝓛 account_coded γ vs₁ 0 j j w (omega arith)) $ learn ! (λ there.
        use1 𝓛 (raw (Moved 𝓛 account_coded γ 0 vs₁ j j w')) (all_e 𝓤 (Moved 𝓛 account_coded γ 0 vs₁ j j) w') $
        settle 𝓛 (⟦ I ⟧ ∗ Q) (‵ (all_of vs₂) ⊛ ‵ (mine j w')) $ split ! $
        use1 𝓛 (‵ I) (closed vs₂ (keeps.trades vs i j v w v' w' t at there ok)) $ suffices ! _ (upd_i 𝓤 (⟦ I ⟧ ∗ Q)) $ frame ! $ check ! (keeps.learns vs i v at ok) $
        move ! (1 ∷ 0 ∷ []) $ done !)))) $
        await ! tt $ learn ! (λ learned. split ! $ now ! $ check ! learned $ move ! (2 ∷ 0 ∷ []) $ use2 𝓛 (‵ (token_owns γ v')) (packed i v') $ frame ! $ move ! (1 ∷ 0 ∷ []) $ by ! (packed j w'))))

  -- the first token of a new ledger
  abbrev pub Begun : ℕ → SProp 𝓤
  Begun γ = ⟦ token_owns γ (account whole [] [] []) ⟧

  pub begins : emp 𝓤 ⊢ H.⇛ (ex 𝓤 Begun)
  begins = let v : Account = account whole [] [] [] in
      qed 𝓛 [] ∵ updating ! $ use0 𝓛 (later (Kit.some (λ (γ : ℕ). ‵ (all_of γ (v ∷ [])) ⊛ ‵ (mine γ 0 v)))) (Marking.begins 𝓛 account_coded v) $ await ! tt $ pick ! (λ γ. split ! $
      use1 𝓛 (‵ (I γ)) (closed γ (v ∷ []) keeps.begins) $ use1 𝓛 (later (‵ (finv (I γ)))) (𝓛.invs.inv_new (I γ)) $ await ! tt $ move ! (0 ∷ 1 ∷ []) $
      use2 𝓛 (‵ (token_owns γ v)) (packed γ 0 v) $ now ! $ show ! Begun γ $ done !)
