-- Each step keeps the rule of a ledger.
use Rattle.std.proofs.Common.{◌≡◌, ◌≢◌, ℕ, ◌+◌, ◌-◌, ◌<◌, List, [], ◌∷◌, ◌++◌, set, refl, sym, ap, ◌∙◌, subst, ⊎_elim, arith}
use mathlib.Core.Option.{some, some-ne-none}
use lib.ListN.{get_elem?}
use Rattle.crossbeam_queue.specs.Fifo.{Forks, Merges, Learns}
use Rattle.crossbeam_queue.proofs.Lists.{at_set, at_snoc}
use Rattle.pool_fabric.specs.declared.ledger.Hand.{Hand}
use Rattle.pool_fabric.specs.declared.ledger.DrawnChunk.{DrawnChunk}
use Rattle.slot_balance.specs.Weights.{weigh}
use Rattle.pool_fabric.specs.Ledgers.{hand, whole, parts_of, gave_of, got_of, IdleIsEmpty, IsBalanced, IsTotal, IsWithin}
use Rattle.loan_ledger.proofs.Views.{weigh_set, weighs_less, weighs_all}
use Rattle.slot_balance.proofs.Sums.{weigh-append, weigh-snoc}

idle_set : (views : List Hand) (page : ℕ) (w : Hand) → (w.parts ≡ 0 → (w.gave ≡ []) × (w.got ≡ [])) → IdleIsEmpty views → IdleIsEmpty (set views page w)
idle_set views page w mine others j u e nil =
    ⊎_elim (λ (x : (j ≡ page) × (w ≡ u)). subst (λ (y : Hand). (y.gave ≡ []) × (y.got ≡ [])) x.1 (mine (ap parts_of x.1 ∙ nil)))
    (λ (x : (j ≢ page) × (get_elem? views j ≡ some u)). others j u x.1 nil)
    (at_set views page j w u e)

idle_new : (views : List Hand) (w : Hand) → (w.parts ≡ 0 → (w.gave ≡ []) × (w.got ≡ [])) → IdleIsEmpty views → IdleIsEmpty (views ++ w ∷ [])
idle_new views w mine others j u e nil =
    ⊎_elim (λ (x : get_elem? views j ≡ some u). others j u x nil)
    (λ (x : w ≡ u). subst (λ (y : Hand). (y.gave ≡ []) × (y.got ≡ [])) x (mine (ap parts_of x ∙ nil)))
    (at_snoc views w u j e)

pub begins : IsBalanced [] (hand whole [] [] ∷ [])
begins = (refl, λ g. refl, idle_new [] (hand whole [] []) (λ nil. (refl, refl)) (λ j u e nil. absurd (some-ne-none u (sym e))))

-- a pass is cut in two that have together what it had, or each one item more
divides : (page : ℕ) (v w n : Hand) → v.parts ≡ w.parts + n.parts
    → ((g : DrawnChunk → ℕ) → (gave_of g w + gave_of g n) + got_of g v ≡ (got_of g w + got_of g n) + gave_of g v)
    → (w.parts ≡ 0 → (w.gave ≡ []) × (w.got ≡ [])) → (n.parts ≡ 0 → (n.gave ≡ []) × (n.got ≡ []))
    → Forks IsBalanced page v w n
divides page v w n parts even mine new items views b at =
    let vs : List Hand = set views page w in (
      (let s = weigh_set parts_of views page v w at in let p = b.0 in let q = weigh-snoc parts_of vs n in omega arith),
      (λ g.
          let s = weigh_set (gave_of g) views page v w at in
          let t = weigh_set (got_of g) views page v w at in
          let p = b.1 g in
          let e = even g in
          let q = weigh-snoc (gave_of g) vs n in
          let r = weigh-snoc (got_of g) vs n in
          omega arith),
      idle_new vs n new (idle_set views page w mine b.2),
    )

pub forks : (page : ℕ) (v : Hand) → 1 < v.parts → Forks IsBalanced page v (hand (v.parts - 1) v.gave v.got) (hand 1 [] [])
forks page v more = divides page v (hand (v.parts - 1) v.gave v.got) (hand 1 [] []) (omega arith) (λ g. omega arith) (λ nil. absurd (omega arith)) (λ nil. absurd (omega arith))

pub spares : (page : ℕ) (v : Hand) → 0 < v.parts → Forks IsBalanced page v v (hand 0 [] [])
spares page v some_part = divides page v v (hand 0 [] []) (omega arith) (λ g. omega arith) (λ nil. absurd (omega arith)) (λ nil. (refl, refl))

pub deals : (page : ℕ) (d : DrawnChunk) (v : Hand) → 1 < v.parts → Forks IsBalanced page v (hand (v.parts - 1) (v.gave ++ d ∷ []) []) (hand 1 [] (v.got ++ d ∷ []))
deals page d v more =
    divides page v (hand (v.parts - 1) (v.gave ++ d ∷ []) []) (hand 1 [] (v.got ++ d ∷ [])) (omega arith)
    (λ g. let p = weigh-snoc g v.gave d in let q = weigh-snoc g v.got d in omega arith)
    (λ nil. absurd (omega arith)) (λ nil. absurd (omega arith))

pub merges : (page : ℕ) (v : Hand) (other : ℕ) (u : Hand) → 0 < v.parts
    → Merges IsBalanced page v other u (hand (v.parts + u.parts) (v.gave ++ u.gave) (v.got ++ u.got)) (hand 0 [] [])
merges page v other u some_part items views b at apart there =
    let w = hand (v.parts + u.parts) (v.gave ++ u.gave) (v.got ++ u.got) in
    let n : Hand = hand 0 [] [] in
    let vs : List Hand = set views page w in (
      (let s = weigh_set parts_of views page v w at in let t = weigh_set parts_of vs other u n there in let p = b.0 in omega arith),
      (λ g.
          let s = weigh_set (gave_of g) views page v w at in
          let t = weigh_set (got_of g) views page v w at in
          let s' = weigh_set (gave_of g) vs other u n there in
          let t' = weigh_set (got_of g) vs other u n there in
          let p = b.1 g in
          let q = weigh-append g v.gave u.gave in
          let r = weigh-append g v.got u.got in
          omega arith),
      idle_set vs other n (λ nil. (refl, refl)) (idle_set views page w (λ nil. absurd (omega arith)) b.2),
    )

pub learns : (page : ℕ) (v : Hand) → v.parts ≡ whole → Learns IsBalanced page v (IsTotal v)
learns page v all items views b at g =
    let total = b.0 ∙ sym all in
    let s = weighs_all parts_of (gave_of g) views page v at total (λ j u e nil. ap (weigh g) (b.2 j u e nil).0) in
    let t = weighs_all parts_of (got_of g) views page v at total (λ j u e nil. ap (weigh g) (b.2 j u e nil).1) in
    let p = b.1 g in
    omega arith

pub bounds : (page : ℕ) (v : Hand) → Learns IsBalanced page v (IsWithin v)
bounds page v items views b at = let p = weighs_less parts_of views page v at in let q = b.0 in omega arith
