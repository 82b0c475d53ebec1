-- Inboxes along which the numbers rise.
use Rattle.std.proofs.Common.{◌≡◌, ◌≢◌, ℕ, suc, ◌<◌, ◌≤◌, List, [], ◌∷◌, ◌++◌, length, get_or, sym, ◌∙◌, subst, arith, All, ⊎_elim}
use Rattle.std.proofs.lemmas.Bool.{cases_lt}
use Rattle.std.proofs.lemmas.Bool.Decides.{eqb_tells}
use Rattle.std.proofs.lemmas.List.{get_or_read, get_or_append_left, length-append}
use Rattle.std.proofs.Math.Seq.{get_or-append_seam}
use Rattle.std.specs.Prelude.{Bool, true, false, IsTrue, ◌↔◌}
use Rattle.std.specs.List.Sorted.{IsNonDecreasingBy}
use Rattle.event_floor.specs.Inboxes.{QueuedState, NumbersRise, IsUnlinked}

-- so they don't fall
pub rises_weakly : (ps : List QueuedState) → NumbersRise ps → IsNonDecreasingBy (λ (p : QueuedState). p.batch.number) ps
rises_weakly ps h i j d l m =
    ⊎_elim (λ (same : _ × (i ≡ j)). rw same.1 (omega arith))
    (λ (other : _ × (i ≢ j)). let e = other.1 in let r = h i j d (omega (arith, l, e)) m in omega (arith, r)) (eqb_tells i j)

-- no batch has the number, where the first whose number isn't below it isn't such a batch
pub none_unlinked : (ps : List QueuedState) (number i : ℕ) → NumbersRise ps → ((k : ℕ) (d : QueuedState) → k < i → (get_or ps k d).batch.number < number)
    → ((k : ℕ) (d : QueuedState) → i ≤ k → k < length ps → number ≤ (get_or ps k d).batch.number) → ((d : QueuedState) → i < length ps → IsUnlinked number (get_or ps i d) → ⊥)
    → All (λ (p : QueuedState). IsUnlinked number p → ⊥) ps
none_unlinked ps number i h below above other k d l unlinked =
    let is = unlinked.0 in
    ⊎_elim (λ (m : k < i). let b = below k d m in absurd (omega (arith, b, is)))
    (λ (n : i ≤ k).
    ⊎_elim (λ (same : _ × (k ≡ i)). let e = same.1 in other d (omega (arith, l, e)) (subst (λ z. IsUnlinked number (get_or ps z d)) e unlinked))
    (λ (apart : _ × (k ≢ i)). let e = apart.1 in let m : i < k = omega (arith, n, e) in
    let a = above i d (omega arith) (omega (arith, m, l)) in let r = h i k d m l in absurd (omega (arith, a, r, is))) (eqb_tells k i)) (cases_lt k i)

-- and such a place isn't one, where its batch was asked
pub not_unlinked : (ps : List QueuedState) (number i : ℕ) (x : QueuedState) (answer : Bool) → (IsTrue answer ↔ IsUnlinked number x) → answer ≡ false → x ≡ get_or ps i x
    → (d : QueuedState) → i < length ps → IsUnlinked number (get_or ps i d) → ⊥
not_unlinked ps number i x answer asked denied read d l unlinked =
    let says : answer ≡ true = asked.1 (subst (λ z. IsUnlinked number z) (sym (get_or_read ps i x l read d)) unlinked) in
    let both : false ≡ true = sym denied ∙ says in
    absurd (cc)

-- they rise behind the front
pub rises_behind : (ps qs : List QueuedState) (p : QueuedState) → qs ≡ p ∷ ps → NumbersRise qs → NumbersRise ps
rises_behind ps qs p e h i j d l m = let all : NumbersRise (p ∷ ps) = subst (λ z. NumbersRise z) e h in all (suc i) (suc j) d (omega (arith, l)) (omega (arith, m))

-- a batch with a greater number than all others goes behind them
pub rises_sent : (ps : List QueuedState) (p : QueuedState) → NumbersRise ps → All (λ (q : QueuedState). q.batch.number < p.batch.number) ps → NumbersRise (ps ++ p ∷ [])
rises_sent ps p h below i j d l m =
    let long = length-append ps (p ∷ []) in
    ⊎_elim (λ (k : j < length ps).
    rw (get_or_append_left ps (p ∷ []) d i (omega (arith, l, k)), get_or_append_left ps (p ∷ []) d j k) (h i j d l k))
    (λ (k : length ps ≤ j). let is : j ≡ length ps = omega (arith, m, k, long) in let n : i < length ps = omega (arith, l, is) in
    rw is (rw (get_or-append_seam ps p [] d, get_or_append_left ps (p ∷ []) d i n) (below i d n))) (cases_lt j (length ps))
