-- Rows of seats, and the seats at one inbox.
use Rattle.std.proofs.Common.{◌≡◌, ℕ, ◌+◌, ◌<◌, List, [], ◌∷◌, ◌++◌, length, refl, ap, ◌∙◌, arith, Some, length-append}
use Rattle.std.specs.Prelude.{slice_get}
use Rattle.slot_balance.specs.Seats.{AreParted}
use Rattle.slot_balance.proofs.Rows.{get_front, get_seam, parted_last, parted_other}
use Rattle.pool_fabric.specs.Names.{Names, box_at}
use Rattle.pool_fabric.specs.Seats.{SeatState, AreSeatsBy}
use Rattle.pool_fabric.specs.Gathered.{AreRows, AreAt}

-- a row without its last seat, and that seat
pub row_popped : (n : Names) (a k : ℕ) (row rest : List SeatState) (x : SeatState) → row ≡ rest ++ x ∷ [] → AreSeatsBy n a row × (length row ≡ k + 1)
    → (AreSeatsBy n a rest × (length rest ≡ k)) × (x.inbox ≡ box_at n k) × (x.sender ≡ a)
row_popped n a k row rest x is r =
    let len : length rest ≡ k = let e = ap length is in let f = length-append rest (x ∷ []) in let g = r.1 in omega arith in
    let at = r.0.each (length rest) x (ap (λ l. slice_get l (length rest)) is ∙ get_seam rest x []) in (
      (record { each = λ j y e. r.0.each j y (ap (λ l. slice_get l j) is ∙ get_front rest (x ∷ []) j y e) }, len),
      at.0 ∙ ap (box_at n) len,
      at.1,
    )

-- the rows without their last seats, and these seats
pub rows_parted : (n : Names) (k : ℕ) (rows others : List (List SeatState)) (last : List SeatState) → AreParted rows others last → AreRows n (k + 1) rows → AreRows n k others × AreAt n k last
rows_parted n k rows others last p r = (
  record {
    each = λ a o e.
        let q = parted_other rows others last p a o e in
        (row_popped n a k (o ++ q.0 ∷ []) o q.0 refl (r.each a (o ++ q.0 ∷ []) q.1)).0;
  },
  record {
    each = λ a x e.
        let q = parted_last rows others last p a x e in
        let p = row_popped n a k (q.0 ++ x ∷ []) q.0 x refl (r.each a (q.0 ++ x ∷ []) q.1) in
        (p.1, p.2);
  },
)

-- no row is empty
pub no_row_empty : (n : Names) (k : ℕ) (rows : List (List SeatState)) → AreRows n (k + 1) rows → (a : ℕ) (row : List SeatState) → slice_get rows a ≡ Some row → 0 < length row
no_row_empty n k rows r a row e = let f = (r.each a row e).1 in omega arith
