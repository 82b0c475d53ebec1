-- Slots that move from one list to another.
use Rattle.std.proofs.Common.{◌≡◌, ℕ, ◌+◌, Bool, true, false, ◌&&◌, cond, List, ◌∷◌, Option, Some, None, if◌then◌else◌, IsPermutation, refl, sym, ap, ap₂, ◌∙◌, subst, arith, add-zero}
use Rattle.std.proofs.lemmas.Bool.{eqb-true, eq-eqb, false≢true, true≢false}
use Rattle.std.proofs.lemmas.List.Sorted.{sum_by_pushed}
use Rattle.region_cut.specs.declared.slot.Slot.{Slot}
use Rattle.region_cut.specs.Slots.{same_slot, times}
use Rattle.pool_machine.specs.Slots.{one_if}
use Rattle.pool_machine.proofs.Located.{ListName, HomeOf, Loans, CacheOf, BatchOf, same_list, is_list}
use Rattle.pool_machine.proofs.Basics.{same_slot_eq, same_slot_self}

pub same_list_eq : (l m : ListName) → same_list l m ≡ true → l ≡ m
same_list_eq (HomeOf a) (HomeOf b) e = ap HomeOf (eqb-true a b e)
same_list_eq Loans Loans e = refl
same_list_eq (CacheOf a) (CacheOf b) e = ap CacheOf (eqb-true a b e)
same_list_eq (BatchOf a) (BatchOf b) e = ap BatchOf (eqb-true a b e)
same_list_eq _ _ e = absurd (false≢true e)

pub same_list_self : (l : ListName) → same_list l l ≡ true
same_list_self (HomeOf a) = eq-eqb a a refl
same_list_self Loans = refl
same_list_self (CacheOf a) = eq-eqb a a refl
same_list_self (BatchOf a) = eq-eqb a a refl

pub same_list_turn : (l m : ListName) → same_list l m ≡ false → same_list m l ≡ false
same_list_turn l m e = go (same_list m l) refl
  where
    go : (b : Bool) → same_list m l ≡ b → b ≡ false
    go true q = absurd (true≢false (sym (same_list_self l) ∙ (ap (same_list l) (sym (same_list_eq m l q)) ∙ e)))
    go false q = refl

is_list_eq : (l : ListName) (o : Option ListName) → is_list l o ≡ true → o ≡ Some l
is_list_eq l None e = absurd (false≢true e)
is_list_eq l (Some m) e = ap Some (sym (same_list_eq l m e))

-- some slots go from list l to list m
pub record SomeMove (before after : ListName → Slot → ℕ) (l m : ListName) (p : Slot → Bool) : Type 0 where
  pub apart : same_list l m ≡ false
  pub leave : (s : Slot) → after l s ≡ cond (p s) 0 (before l s)
  pub arrive : (s : Slot) → after m s ≡ before m s + cond (p s) (before l s) 0
  pub stay : (k : ListName) (s : Slot) → same_list k l ≡ false → same_list k m ≡ false → after k s ≡ before k s

module _ (before after : ListName → Slot → ℕ) (l m : ListName) (p : Slot → Bool) (name : Slot → Option ListName)
    (h : SomeMove before after l m p) (shows : (k : ListName) (s : Slot) → before k s ≡ one_if (is_list k (name s))) where
  at_source : (s : Slot) (b : Bool) → p s ≡ b → (d : Bool) → is_list l (name s) ≡ d →
      after l s ≡ one_if (is_list l (if b && d then Some m else name s))
  at_source s true q true e = h.leave s ∙ (ap (λ c. cond c 0 (before l s)) q ∙ ap one_if (sym h.apart))
  at_source s true q false e = h.leave s ∙ (ap (λ c. cond c 0 (before l s)) q ∙ ap one_if (sym e))
  at_source s false q d e = h.leave s ∙ (ap (λ c. cond c 0 (before l s)) q ∙ shows l s)

  at_target : (s : Slot) (b : Bool) → p s ≡ b → (d : Bool) → is_list l (name s) ≡ d →
      after m s ≡ one_if (is_list m (if b && d then Some m else name s))
  at_target s true q true e =
      h.arrive s ∙ (ap (λ c. before m s + cond c (before l s) 0) q
      ∙ (ap₂ ◌+◌ (shows m s ∙ (ap (λ o. one_if (is_list m o)) (is_list_eq l (name s) e) ∙ ap one_if (same_list_turn l m h.apart)))
      (shows l s ∙ ap one_if e)
      ∙ ap one_if (sym (same_list_self m))))
  at_target s true q false e =
      h.arrive s ∙ (ap (λ c. before m s + cond c (before l s) 0) q
      ∙ (ap (λ n. before m s + n) (shows l s ∙ ap one_if e) ∙ (add-zero (before m s) ∙ shows m s)))
  at_target s false q d e =
      h.arrive s ∙ (ap (λ c. before m s + cond c (before l s) 0) q ∙ (add-zero (before m s) ∙ shows m s))

  elsewhere : (k : ListName) (s : Slot) → same_list k l ≡ false → same_list k m ≡ false → (b d : Bool) → is_list l (name s) ≡ d →
      after k s ≡ one_if (is_list k (if b && d then Some m else name s))
  elsewhere k s f g true true e =
      h.stay k s f g ∙ (shows k s ∙ (ap (λ o. one_if (is_list k o)) (is_list_eq l (name s) e) ∙ ap one_if (f ∙ sym g)))
  elsewhere k s f g true false e = h.stay k s f g ∙ shows k s
  elsewhere k s f g false d e = h.stay k s f g ∙ shows k s

  pub some_moved : (new : Slot → Option ListName) → ((s : Slot) → new s ≡ (if p s && is_list l (name s) then Some m else name s)) →
      (k : ListName) (s : Slot) → after k s ≡ one_if (is_list k (new s))
  some_moved new names k s = go (same_list k l) refl (same_list k m) refl ∙ ap (λ o. one_if (is_list k o)) (sym (names s))
    where
      go : (x : Bool) → same_list k l ≡ x → (y : Bool) → same_list k m ≡ y →
          after k s ≡ one_if (is_list k (if p s && is_list l (name s) then Some m else name s))
      go true q y r = subst (λ z. after z s ≡ one_if (is_list z (if p s && is_list l (name s) then Some m else name s))) (sym (same_list_eq k l q))
          (at_source s (p s) refl (is_list l (name s)) refl)
      go false q true r = subst (λ z. after z s ≡ one_if (is_list z (if p s && is_list l (name s) then Some m else name s)))
          (sym (same_list_eq k m r))
          (at_target s (p s) refl (is_list l (name s)) refl)
      go false q false r = elsewhere k s q r (p s) (is_list l (name s)) refl

-- one slot goes: by what the lists' edits say
pub one_moves : (before after : ListName → List Slot) (l m : ListName) (r : Slot) (name : Slot → Option ListName) →
    ((k : ListName) (s : Slot) → times s (before k) ≡ one_if (is_list k (name s))) → name r ≡ Some l → same_list l m ≡ false →
    IsPermutation (r ∷ after l) (before l) → IsPermutation (r ∷ before m) (after m) →
    ((k : ListName) → same_list k l ≡ false → same_list k m ≡ false → after k ≡ before k) →
    SomeMove (λ k s. times s (before k)) (λ k s. times s (after k)) l m (same_slot r)
one_moves before after l m r name shows there f out into rest = record {
  apart = f;
  leave = λ s. leaves s (same_slot r s) refl;
  arrive = λ s. arrives s (same_slot r s) refl;
  stay = λ k s a b. ap (times s) (rest k a b);
}
  where
    turned : (s : Slot) (b : Bool) → same_slot r s ≡ b → same_slot s r ≡ b
    turned s true e = ap (λ z. same_slot z r) (sym (same_slot_eq r s e)) ∙ same_slot_self r
    turned s false e = go (same_slot s r) refl
      where
        go : (b : Bool) → same_slot s r ≡ b → b ≡ false
        go true q = absurd (true≢false (sym (same_slot_self r) ∙ (ap (same_slot r) (sym (same_slot_eq s r q)) ∙ e)))
        go false q = refl

    pushed_out : (s : Slot) → times s (before l) ≡ one_if (same_slot s r) + times s (after l)
    pushed_out s = sum_by_pushed (λ x. cond (same_slot s x) 1 0) r (after l) (before l) out

    pushed_in : (s : Slot) → times s (after m) ≡ one_if (same_slot s r) + times s (before m)
    pushed_in s = sum_by_pushed (λ x. cond (same_slot s x) 1 0) r (before m) (after m) into

    once : (s : Slot) → same_slot r s ≡ true → times s (before l) ≡ 1
    once s e = shows l s ∙ (ap (λ z. one_if (is_list l (name z))) (sym (same_slot_eq r s e))
        ∙ (ap (λ o. one_if (is_list l o)) there ∙ ap one_if (same_list_self l)))

    leaves : (s : Slot) (b : Bool) → same_slot r s ≡ b → times s (after l) ≡ cond b 0 (times s (before l))
    leaves s true e =
        let a = pushed_out s ∙ ap (λ b. one_if b + times s (after l)) (turned s true e) in
        let b = once s e in
        let g : times s (before l) ≡ 1 + times s (after l) = a in
        omega arith
    leaves s false e =
        let a : times s (before l) ≡ 0 + times s (after l) = pushed_out s ∙ ap (λ b. one_if b + times s (after l)) (turned s false e) in
        omega arith

    arrives : (s : Slot) (b : Bool) → same_slot r s ≡ b → times s (after m) ≡ times s (before m) + cond b (times s (before l)) 0
    arrives s true e =
        let a : times s (after m) ≡ 1 + times s (before m) = pushed_in s ∙ ap (λ b. one_if b + times s (before m)) (turned s true e) in
        let b = once s e in
        omega arith
    arrives s false e =
        let a : times s (after m) ≡ 0 + times s (before m) = pushed_in s ∙ ap (λ b. one_if b + times s (before m)) (turned s false e) in
        omega arith
