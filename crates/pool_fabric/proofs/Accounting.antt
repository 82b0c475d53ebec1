-- Lists of slots are joined.
use Rattle.std.proofs.Common.{◌≡◌, ℕ, zero, suc, ◌+◌, ◌<◌, ◌≤◌, List, [], ◌∷◌, ◌++◌, length, get_or, take, refl, sym, ap, ◌∙◌, subst, arith, append_assoc, append-nil, IsPermutation}
use Rattle.std.specs.Prelude.{Option, Result, Ok, Err, IfOk, IfErr}
use Rattle.std.proofs.lemmas.List.Sorted.{IsPermutation-refl, IsPermutation-append}
use Rattle.region_cut.specs.declared.slot.Slot.{Slot}
use Rattle.slot_chain.specs.Slots.{AddsSlots}
use Rattle.slot_audit.specs.Audit.{FindsEachSlot, IsFault}
use Rattle.slot_audit.specs.declared.fault.Fault.{Fault}
use Rattle.slot_audit.specs.declared.fault.Fault.TheVariants.{Stranger, Doubled, Missing, NoMemory}
use Rattle.pool_fabric.specs.Audited.{listed, Audited}

pub adds_none : {A : Type 0} (f : A → List Slot) (xs : List A) (old : List Slot) → AddsSlots (listed f (take 0 xs)) old old
adds_none f xs old = record { added = []; appended = sym (append-nil old); each = IsPermutation-refl [] }

pub adds_more : (xs ys old mid new : List Slot) → AddsSlots xs old mid → AddsSlots ys mid new → AddsSlots (xs ++ ys) old new
adds_more xs ys old mid new a b = record {
  added = a.added ++ b.added;
  appended = b.appended ∙ ap (λ l. l ++ b.added) a.appended ∙ append_assoc old a.added b.added;
  each = IsPermutation-append xs a.added ys b.added a.each b.each;
}

listed-next : {A : Type 0} (f : A → List Slot) (xs : List A) (k : ℕ) (x : A) → k < length xs → x ≡ get_or xs k x → listed f (take (suc k) xs) ≡ listed f (take k xs) ++ f x
listed-next f [] k x l e = absurd (omega arith)
listed-next f (y ∷ ys) zero x l e = ap (λ z. f z ++ []) (sym e) ∙ append-nil (f x)
listed-next f (y ∷ ys) (suc k) x l e = ap (λ r. f y ++ r) (listed-next f ys k x (omega arith) e) ∙ sym (append_assoc (f y) (listed f (take k ys)) (f x))

-- one more was listed
pub adds_next : {A : Type 0} (f : A → List Slot) (xs : List A) (k : ℕ) (x : A) (old mid new : List Slot) → k < length xs → x ≡ get_or xs k x
    → AddsSlots (listed f (take k xs)) old mid → AddsSlots (f x) mid new → AddsSlots (listed f (take (k + 1) xs)) old new
adds_next f xs k x old mid new l e a b =
    subst (λ (s : List Slot). AddsSlots s old new) (sym (ap (λ n. listed f (take n xs)) (let same : k + 1 ≡ suc k = omega arith in same) ∙ listed-next f xs k x l e)) (adds_more (listed f (take k xs)) (f x) old mid new a b)

take_whole : {A : Type 0} (xs : List A) (n : ℕ) → length xs ≤ n → take n xs ≡ xs
take_whole [] zero l = refl
take_whole [] (suc n) l = refl
take_whole (x ∷ xs) zero l = absurd (omega arith)
take_whole (x ∷ xs) (suc n) l = ap (λ r. x ∷ r) (take_whole xs n (omega arith))

-- all were listed
pub adds_all : {A : Type 0} (f : A → List Slot) (xs : List A) (k : ℕ) (old new : List Slot) → length xs ≤ k → AddsSlots (listed f (take k xs)) old new → AddsSlots (listed f xs) old new
adds_all f xs k old new l a = subst (λ ys. AddsSlots (listed f ys) old new) (take_whole xs k l) a

-- what an audit of the list answers
pub audited : (slots found : List Slot) (drawn : List (Option ℕ)) (r : Result (Unit {0}) Fault) → AddsSlots slots [] found
    → IfOk r (λ u. FindsEachSlot drawn found) → IfErr r (λ f. IsFault drawn found f) → Audited slots drawn r
audited slots found drawn (Ok u) a ok err = record { found = found; each = subst (λ l. IsPermutation slots l) (sym a.appended) a.each; is = ok }
audited slots found drawn (Err NoMemory) a ok err = tt
audited slots found drawn (Err (Stranger s)) a ok err = record { found = found; each = subst (λ l. IsPermutation slots l) (sym a.appended) a.each; is = err }
audited slots found drawn (Err (Doubled s)) a ok err = record { found = found; each = subst (λ l. IsPermutation slots l) (sym a.appended) a.each; is = err }
audited slots found drawn (Err (Missing s)) a ok err = record { found = found; each = subst (λ l. IsPermutation slots l) (sym a.appended) a.each; is = err }
