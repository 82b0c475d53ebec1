-- Lists that grow by one, and rows without their last seats.
use Rattle.std.proofs.Common.{◌≡◌, ◌⊎◌, ℕ, zero, suc, ◌+◌, List, [], ◌∷◌, ◌++◌, length, refl, sym, ap, ◌∙◌, arith, subst, Some, inl, inr, ⊎_elim, map}
use Rattle.std.specs.Prelude.{slice_get}
use Rattle.region_cut.specs.declared.slot.Slot.{Slot}
use Rattle.slot_balance.specs.Weights.{weigh}
use Rattle.slot_balance.specs.Accounts.{of_seat, of_seats}
use Rattle.slot_balance.specs.Seats.{SeatState, AreParted}
use Rattle.slot_balance.proofs.Sums.{weigh-snoc}

module _ {A : Type 0} where
  pub get_front : (xs ys : List A) (k : ℕ) (x : A) → slice_get xs k ≡ Some x → slice_get (xs ++ ys) k ≡ Some x
  get_front [] ys k x e = absurd (cc)
  get_front (z ∷ zs) ys zero x e = e
  get_front (z ∷ zs) ys (suc k) x e = get_front zs ys k x e

  pub get_seam : (xs : List A) (x : A) (ys : List A) → slice_get (xs ++ x ∷ ys) (length xs) ≡ Some x
  get_seam [] x ys = refl
  get_seam (z ∷ zs) x ys = get_seam zs x ys

  pub get_snoc : (xs : List A) (x s : A) (k : ℕ) → slice_get (xs ++ x ∷ []) k ≡ Some s → (slice_get xs k ≡ Some s) ⊎ ((k ≡ length xs) × (x ≡ s))
  get_snoc [] x s zero e = inr (refl, cc)
  get_snoc [] x s (suc k) e = absurd (cc)
  get_snoc (y ∷ ys) x s zero e = inl e
  get_snoc (y ∷ ys) x s (suc k) e = ⊎_elim (λ h. inl h) (λ h. inr (ap suc h.0, h.1)) (get_snoc ys x s k e)

  -- one more
  pub each_more : (P : ℕ → A → Type 0) (xs : List A) (x : A) → ((k : ℕ) (y : A) → slice_get xs k ≡ Some y → P k y) → P (length xs) x → (k : ℕ) (y : A) → slice_get (xs ++ x ∷ []) k ≡ Some y → P k y
  each_more P xs x old new k y e =
      ⊎_elim (λ h. old k y h) (λ (h : (k ≡ length xs) × (x ≡ y)). subst (λ (z : ℕ × A). P z.0 z.1) (λ i. (sym h.0 i, h.1 i)) new) (get_snoc xs x y k e)

module _ {A B : Type 0} where
  -- an item of a mapped list is that of an item
  pub get_mapped : (f : A → B) (xs : List A) (k : ℕ) (y : B) → slice_get (map f xs) k ≡ Some y → (x : A) × (slice_get xs k ≡ Some x) × (f x ≡ y)
  get_mapped f [] k y e = absurd (cc)
  get_mapped f (x ∷ xs) zero y e = (x, refl, cc)
  get_mapped f (x ∷ xs) (suc k) y e = get_mapped f xs k y e

  pub map-snoc : (f : A → B) (xs : List A) (x : A) → map f (xs ++ x ∷ []) ≡ map f xs ++ f x ∷ []
  map-snoc f [] x = refl
  map-snoc f (y ∷ ys) x = ap (λ l. f y ∷ l) (map-snoc f ys x)

-- one row more
pub parted_more : (rs os : List (List SeatState)) (xs : List SeatState) (r o : List SeatState) (x : SeatState) → AreParted rs os xs → r ≡ o ++ x ∷ []
    → AreParted (rs ++ r ∷ []) (os ++ o ∷ []) (xs ++ x ∷ [])
parted_more [] [] [] r o x p e = (e, tt)
parted_more [] [] (y ∷ ys) r o x p e = absurd p
parted_more [] (q ∷ qs) xs r o x p e = absurd p
parted_more (s ∷ ss) [] xs r o x p e = absurd p
parted_more (s ∷ ss) (q ∷ qs) [] r o x p e = absurd p
parted_more (s ∷ ss) (q ∷ qs) (y ∷ ys) r o x p e = (p.0, parted_more ss qs ys r o x p.1 e)

pub parted_count : (rs os : List (List SeatState)) (xs : List SeatState) → AreParted rs os xs → (length os ≡ length rs) × (length xs ≡ length rs)
parted_count [] [] [] p = (refl, refl)
parted_count [] [] (y ∷ ys) p = absurd p
parted_count [] (q ∷ qs) xs p = absurd p
parted_count (s ∷ ss) [] xs p = absurd p
parted_count (s ∷ ss) (q ∷ qs) [] p = absurd p
parted_count (s ∷ ss) (q ∷ qs) (y ∷ ys) p = let i = parted_count ss qs ys p.1 in (ap suc i.0, ap suc i.1)

-- a row of the others had a seat more
pub parted_other : (rs os : List (List SeatState)) (xs : List SeatState) → AreParted rs os xs → (k : ℕ) (o : List SeatState) → slice_get os k ≡ Some o
    → (x : SeatState) × (slice_get rs k ≡ Some (o ++ x ∷ []))
parted_other [] [] [] p k o e = absurd (cc)
parted_other [] [] (y ∷ ys) p k o e = absurd p
parted_other [] (q ∷ qs) xs p k o e = absurd p
parted_other (s ∷ ss) [] xs p k o e = absurd p
parted_other (s ∷ ss) (q ∷ qs) [] p k o e = absurd p
parted_other (s ∷ ss) (q ∷ qs) (y ∷ ys) p zero o e = let same : q ≡ o = cc in (y, ap Some (p.0 ∙ ap (λ l. l ++ y ∷ []) same))
parted_other (s ∷ ss) (q ∷ qs) (y ∷ ys) p (suc k) o e = parted_other ss qs ys p.1 k o e

-- a last seat was that of its row
pub parted_last : (rs os : List (List SeatState)) (xs : List SeatState) → AreParted rs os xs → (k : ℕ) (x : SeatState) → slice_get xs k ≡ Some x
    → (o : List SeatState) × (slice_get rs k ≡ Some (o ++ x ∷ []))
parted_last [] [] [] p k x e = absurd (cc)
parted_last [] [] (y ∷ ys) p k x e = absurd p
parted_last [] (q ∷ qs) xs p k x e = absurd p
parted_last (s ∷ ss) [] xs p k x e = absurd p
parted_last (s ∷ ss) (q ∷ qs) [] p k x e = absurd p
parted_last (s ∷ ss) (q ∷ qs) (y ∷ ys) p zero x e = let same : y ≡ x = cc in (q, ap Some (p.0 ∙ ap (λ (z : SeatState). q ++ z ∷ []) same))
parted_last (s ∷ ss) (q ∷ qs) (y ∷ ys) p (suc k) x e = parted_last ss qs ys p.1 k x e

-- what was sent from the seats is that of both parts
pub parted_sum : (h : Slot → ℕ) (rs os : List (List SeatState)) (xs : List SeatState) → AreParted rs os xs → of_seats h xs + weigh (of_seats h) os ≡ weigh (of_seats h) rs
parted_sum h [] [] [] p = refl
parted_sum h [] [] (y ∷ ys) p = absurd p
parted_sum h [] (q ∷ qs) xs p = absurd p
parted_sum h (s ∷ ss) [] xs p = absurd p
parted_sum h (s ∷ ss) (q ∷ qs) [] p = absurd p
parted_sum h (s ∷ ss) (q ∷ qs) (y ∷ ys) p =
    let i = parted_sum h ss qs ys p.1 in
    let e = ap (of_seats h) p.0 in
    let f = weigh-snoc (of_seat h) q y in
    omega arith
