-- The steps of tokens keep the rule of their ledger.
use Rattle.std.proofs.Common.{◌≡◌, ◌≢◌, ℕ, ◌+◌, List, [], ◌∷◌, ◌++◌, set, refl, sym, ap, ◌∙◌, subst, ⊎_elim, arith}
use mathlib.Core.Option.{some, some-ne-none}
use lib.ListN.{get_elem?}
use Rattle.loan_ledger.specs.Weights.{weigh}
use Rattle.loan_ledger.specs.Accounts.{Account, account, nothing, whole, parts_of, lent_of, back_of, IsBacked, IsKept, Trades, Learns}
use Rattle.atomic_table.proofs.Lists.{at_set, at_snoc}
use Rattle.loan_ledger.proofs.Sums.{weigh-snoc}
use Rattle.loan_ledger.proofs.Views.{weigh_set, weighs_less, weighs_all}

abbrev AllBacked : List Account → Type 0
AllBacked views = (token : ℕ) (v : Account) → get_elem? views token ≡ some v → IsBacked v

backed_set : (views : List Account) (token : ℕ) (w : Account) → IsBacked w → AllBacked views → AllBacked (set views token w)
backed_set views token w mine all j u e =
    ⊎_elim (λ (x : (j ≡ token) × (w ≡ u)). subst IsBacked x.1 mine) (λ (x : (j ≢ token) × (get_elem? views j ≡ some u)). all j u x.1)
    (at_set views token j w u e)

backed_new : (views : List Account) (w : Account) → IsBacked w → AllBacked views → AllBacked (views ++ w ∷ [])
backed_new views w mine all j u e =
    ⊎_elim (λ (x : get_elem? views j ≡ some u). all j u x) (λ (x : w ≡ u). subst IsBacked x mine) (at_snoc views w u j e)

-- the first token has every part
pub begins : IsKept (account whole [] [] [] ∷ [])
begins = (refl, λ h. refl, backed_new [] (account whole [] [] []) (λ none. (refl, refl)) (λ j u e. absurd (some-ne-none u (sym e))))

-- a new token, at nothing
pub grows : (views : List Account) → IsKept views → IsKept (views ++ nothing ∷ [])
grows views k = (
  (let p = k.0 in let q = weigh-snoc parts_of views nothing in omega arith),
  (λ h. let p = k.1 h in let q = weigh-snoc (lent_of h) views nothing in let r = weigh-snoc (back_of h) views nothing in omega arith),
  backed_new views nothing (λ none. (refl, refl)) k.2,
)

-- two tokens change
pub trades : (views : List Account) (i j : ℕ) (v w v' w' : Account) → Trades v w v' w' → get_elem? views i ≡ some v → get_elem? (set views i v') j ≡ some w
    → IsKept views → IsKept (set (set views i v') j w')
trades views i j v w v' w' t at there k =
    let vs : List Account = set views i v' in (
      (let a = weigh_set parts_of views i v v' at in let b = weigh_set parts_of vs j w w' there in let p = k.0 in let q = t.parts in omega arith),
      (λ h.
          let a = weigh_set (lent_of h) views i v v' at in
          let b = weigh_set (lent_of h) vs j w w' there in
          let c = weigh_set (back_of h) views i v v' at in
          let d = weigh_set (back_of h) vs j w w' there in
          let p = k.1 h in
          let q = t.slots h in
          omega arith),
      backed_set vs j w' t.theirs (backed_set views i v' t.mine k.2),
    )

-- the token with every part knows that no more was taken back than was lent
pub learns : (views : List Account) (token : ℕ) (v : Account) → get_elem? views token ≡ some v → IsKept views → Learns v
learns views token v at k all h =
    let lent = weighs_all parts_of (lent_of h) views token v at (k.0 ∙ sym all) (λ j u e none. ap (weigh h) (k.2 j u e none).0) in
    let back = weighs_less (back_of h) views token v at in
    let even = k.1 h in
    omega arith
