-- A list that has certain slots, each once, is a permutation of the slots that pass a test.
use Rattle.std.proofs.Common.{◌≡◌, ℕ, ◌+◌, ◌<◌, Bool, true, false, cond, List, [], ◌∷◌, ◌++◌, filter, IsPermutation, refl, sym, ap, ap₂, ◌∙◌, subst, arith, zero-add}
use Rattle.std.proofs.lemmas.Bool.{false≢true}
use Rattle.std.proofs.lemmas.List.Sorted.{IsPermutation-refl, IsPermutation-sym, IsPermutation-cons, IsPermutation-trans, IsPermutation-middle, sum_by-IsPermutation}
use Rattle.region_cut.specs.declared.slot.Slot.{Slot}
use Rattle.region_cut.specs.Slots.{same_slot, times}
use Rattle.pool_machine.specs.Slots.{one_if}
use Rattle.pool_machine.specs.State.{State, slots, is_slot}
use Rattle.pool_machine.specs.Sound.{Sound}
use Rattle.pool_machine.proofs.Basics.{same_slot_eq, same_slot_self}
use Rattle.pool_machine.proofs.Enumerate.{count_cons, count_append, slots_once}

times_cons : (s x : Slot) (xs : List Slot) → times s (x ∷ xs) ≡ one_if (same_slot s x) + times s xs
times_cons s x xs = count_cons (same_slot s) x xs

-- a slot that occurs splits the list
abbrev Split : Slot → List Slot → Type 0
Split x ys = (us : List Slot) × (vs : List Slot) × (ys ≡ us ++ x ∷ vs)

split_at : (x : Slot) (ys : List Slot) → 0 < times x ys → Split x ys
split_at x [] l = absurd (omega arith)
split_at x (y ∷ ys) l = go (same_slot x y) refl (subst (λ n. 0 < n) (times_cons x y ys) l) (split_at x ys)
  where
    go : (b : Bool) → same_slot x y ≡ b → 0 < one_if b + times x ys → (0 < times x ys → Split x ys) → Split x (y ∷ ys)
    go true e m f = ([], ys, ap (λ z. z ∷ ys) (sym (same_slot_eq x y e)))
    go false e m f = let h = f (omega arith) in (y ∷ h.0, h.1, ap (λ zs. y ∷ zs) h.2)

pub permutation_from_times : (xs ys : List Slot) → ((s : Slot) → times s xs ≡ times s ys) → IsPermutation xs ys
permutation_from_times [] [] e = IsPermutation-refl []
permutation_from_times [] (y ∷ ys) e =
    absurd (let h = e y ∙ (times_cons y y ys ∙ ap (λ b. one_if b + times y ys) (same_slot_self y)) in let k : 0 ≡ 1 + times y ys = h in omega arith)
permutation_from_times (x ∷ xs) ys e =
    let there : 0 < times x ys = subst (λ n. 0 < n) (sym (times_cons x x xs ∙ ap (λ b. one_if b + times x xs) (same_slot_self x)) ∙ e x)
    (omega arith) in
    let h = split_at x ys there in
    subst (λ zs. IsPermutation (x ∷ xs) zs) (sym h.2)
    (IsPermutation-trans (x ∷ xs) (x ∷ (h.0 ++ h.1)) (h.0 ++ x ∷ h.1)
    (IsPermutation-cons x xs (h.0 ++ h.1) (permutation_from_times xs (h.0 ++ h.1) (λ s. rest h.0 h.1 s (e s ∙ ap (times s) h.2))))
    (IsPermutation-sym (h.0 ++ x ∷ h.1) (x ∷ (h.0 ++ h.1)) (IsPermutation-middle h.0 x h.1)))
  where
    rest : (us vs : List Slot) (s : Slot) → times s (x ∷ xs) ≡ times s (us ++ x ∷ vs) → times s xs ≡ times s (us ++ vs)
    rest us vs s q =
        let a = times_cons s x xs in
        let b = count_append (same_slot s) us (x ∷ vs) in
        let c = times_cons s x vs in
        let d = count_append (same_slot s) us vs in
        omega (arith, q, a, b, c, d)

times_filter : (p : Slot → Bool) (s : Slot) (xs : List Slot) → times s (filter p xs) ≡ cond (p s) (times s xs) 0
times_filter p s [] = zeros (p s)
  where
    zeros : (b : Bool) → ◌≡◌ {A = ℕ} 0 (cond b 0 0)
    zeros true = refl
    zeros false = refl
times_filter p s (x ∷ xs) = go (p x) refl (same_slot s x) refl (p s) refl (times_filter p s xs)
  where
    go : (b : Bool) → p x ≡ b → (e : Bool) → same_slot s x ≡ e → (d : Bool) → p s ≡ d → times s (filter p xs) ≡ cond d (times s xs) 0 →
        times s (cond b (x ∷ filter p xs) (filter p xs)) ≡ cond d (times s (x ∷ xs)) 0
    go true k true m true r ih = times_cons s x (filter p xs) ∙ (ap (λ n. one_if (same_slot s x) + n) ih ∙ sym (times_cons s x xs))
    go true k true m false r ih = absurd (false≢true (sym r ∙ (ap p (same_slot_eq s x m) ∙ k)))
    go true k false m true r ih = times_cons s x (filter p xs) ∙ (ap (λ n. one_if (same_slot s x) + n) ih ∙ sym (times_cons s x xs))
    go true k false m false r ih = times_cons s x (filter p xs) ∙ ap₂ (λ b n. one_if b + n) m ih
    go false k true m true r ih = absurd (false≢true (sym k ∙ (ap p (sym (same_slot_eq s x m)) ∙ r)))
    go false k true m false r ih = ih
    go false k false m true r ih = ih ∙ (sym (zero-add (times s xs)) ∙ (ap (λ b. one_if b + times s xs) (sym m) ∙ sym (times_cons s x xs)))
    go false k false m false r ih = ih

-- the slots of a state that pass a test, each once
module _ (st : State) (c : Slot → ℕ) (p : Slot → Bool) (h : Sound st c) (within : (s : Slot) → p s ≡ true → is_slot st s ≡ true) where
  pub filtered_once : (s : Slot) → times s (filter p (slots st)) ≡ one_if (p s)
  filtered_once s = times_filter p s (slots st) ∙ go (p s) refl
    where
      go : (b : Bool) → p s ≡ b → cond (p s) (times s (slots st)) 0 ≡ one_if b
      go true e = ap (λ b. cond b (times s (slots st)) 0) e ∙ (slots_once st c h s ∙ ap one_if (within s e))
      go false e = ap (λ b. cond b (times s (slots st)) 0) e

-- from a list that has each of them once
pub listed : (st : State) (c : Slot → ℕ) (p : Slot → Bool) (xs : List Slot) → Sound st c →
    ((s : Slot) → p s ≡ true → is_slot st s ≡ true) → ((s : Slot) → times s xs ≡ one_if (p s)) → IsPermutation xs (filter p (slots st))
listed st c p xs h within once =
    permutation_from_times xs (filter p (slots st)) (λ s. once s ∙ sym (filtered_once st c p h within s))

-- and back
pub times_permuted : (s : Slot) (xs ys : List Slot) → IsPermutation xs ys → times s xs ≡ times s ys
times_permuted s xs ys p = sym (sum_by-IsPermutation (λ r. cond (same_slot s r) 1 0) xs ys p)
