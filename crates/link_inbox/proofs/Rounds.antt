-- The slots of a closed inbox, read one after another.
use Rattle.std.proofs.Common.{◌≡◌, ℕ, zero, suc, ◌+◌, ◌-◌, ◌*◌, ◌/◌, ◌%◌, ◌<◌, ◌≤◌, ◌≢◌, List, [], get_or, sym, refl, ap, ◌∙◌, subst, arith}
use mathlib.Core.Option.{some}
use lib.ListN.{get_elem?}
use mathlib.Core.Path.{Path as Eq}
use Rattle.std.specs.Prelude.{Option, Some, None, IfSome}
use Rattle.link_inbox.specs.Remains.{ahead, row, row_of, rows, spot}
use Rattle.link_inbox.proofs.Lists.{at_or}

module _ {B : Type 0} where
  pub reads : (slots : List (Option B)) (turn k : ℕ) (x : Option B) → get_elem? slots (k / 16 * 16 + 1 + (turn + k % 16) % 16) ≡ some x
      → row slots (k / 16 * 16 + 1) turn (16 - (k - k / 16 * 16)) ≡ ahead x (row slots (k / 16 * 16 + 1) turn (16 - (k + 1 - k / 16 * 16)))
  reads slots turn k x is = let base : ℕ = k / 16 * 16 + 1 in let c : ℕ = 15 - k % 16 in
      let p : 16 - (k - k / 16 * 16) ≡ suc c = omega arith in let q : 16 - (k + 1 - k / 16 * 16) ≡ c = omega arith in let r : k % 16 ≡ 15 - c = omega arith in
      ap (row slots base turn) p ∙ (ap (λ (y : Option B). ahead y (row slots base turn c)) (at_or slots (base + (turn + (15 - c)) % 16) x None (subst (λ (z : ℕ). get_elem? slots (base + (turn + z) % 16) ≡ some x) r is))
      ∙ ap (λ (z : ℕ). ahead x (row slots base turn z)) (sym q))

  -- a reading of one sender is none of another
  pub others : (slots : List (Option B)) (turn k s : ℕ) → s ≢ k / 16 → row slots (s * 16 + 1) turn (16 - (k + 1 - s * 16)) ≡ row slots (s * 16 + 1) turn (16 - (k - s * 16))
  others slots turn k s ne = let e : 16 - (k + 1 - s * 16) ≡ 16 - (k - s * 16) = omega arith in ap (row slots (s * 16 + 1) turn) e

  pub over : (slots : List (Option B)) (turn k s n : ℕ) → s < n → n * 16 ≤ k → row slots (s * 16 + 1) turn (16 - (k - s * 16)) ≡ []
  over slots turn k s n lt le = let e : 16 - (k - s * 16) ≡ 0 = omega arith in ap (row slots (s * 16 + 1) turn) e

-- each slot but the first is read
pub reached : (turns : List ℕ) (n m : ℕ) → 0 < m → m < n * 16 + 1 → (k : ℕ) × (k < n * 16) × (spot turns k ≡ m)
reached turns n m pos lt =
    let s : ℕ = (m - 1) / 16 in let j : ℕ = (m - 1) % 16 in let t : ℕ = get_or turns s 0 in
    let d : ℕ = (j + (16 - t % 16)) % 16 in let k : ℕ = s * 16 + d in
    let a : k / 16 ≡ s = omega arith in let b : k % 16 ≡ d = omega arith in let c : (t + d) % 16 ≡ j = omega arith in
    (k, omega arith, (ap (λ (z : ℕ). z * 16 + 1 + (get_or turns z 0 + k % 16) % 16) a ∙ (ap (λ (z : ℕ). s * 16 + 1 + (t + z) % 16) b ∙ (ap (λ (z : ℕ). s * 16 + 1 + z) c ∙ (let g : s * 16 + 1 + j ≡ m = omega arith in g)))))

pub if_some : {A : Type 0} (P : A → Type 0) (x : Option A) → ((b : A) → Eq (Option A) x (Some b) → P b) → IfSome x P
if_some P None f = tt
if_some P (Some b) f = f b refl

module _ {B : Type 0} where
  pub left_rows : (slots : List (Option B)) (turns : List ℕ) (next s n k j : ℕ) → k < n → s + k ≡ j → get_or (rows slots turns next s n) k [] ≡ row_of slots turns next j
  left_rows slots turns next s zero k j lt e = absurd (omega arith)
  left_rows slots turns next s (suc n) zero j lt e = let z : s ≡ j = omega arith in ap (row_of slots turns next) z
  left_rows slots turns next s (suc n) (suc k) j lt e = left_rows slots turns next (suc s) n k j (omega arith) (omega arith)

  pub left_past : (slots : List (Option B)) (turns : List ℕ) (next s n k : ℕ) → n ≤ k → get_or (rows slots turns next s n) k [] ≡ []
  left_past slots turns next s zero k le = refl
  left_past slots turns next s (suc n) zero le = absurd (omega arith)
  left_past slots turns next s (suc n) (suc k) le = left_past slots turns next (suc s) n k (omega arith)
