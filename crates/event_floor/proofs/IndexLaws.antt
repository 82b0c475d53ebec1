-- The inboxes and the index of those of their batches that still have to be linked, after one is sent, linked or taken.
use Rattle.std.proofs.Common.{◌≡◌, ◌≢◌, ℕ, zero, suc, ◌<◌, ◌≤◌, Bool, true, false, cond, List, [], ◌∷◌, ◌++◌, length, get_or, set, replicate, refl, sym, ◌∙◌, subst, ap, arith, All, ◌⊎◌, inl, inr, ⊎_elim, eqb}
use Rattle.std.specs.Prelude.{Option, Some, None, MatchOption, MatchBool, nat_eq}
use Rattle.std.specs.Option.{unwrap_or}
use Rattle.std.proofs.lemmas.Bool.{cases_lt}
use Rattle.std.proofs.lemmas.Bool.Decides.{eqb_tells}
use Rattle.std.proofs.lemmas.List.{get_or_default, get_or-set_same, get_or-set_other, set-get_or, get_or_append_left, get_or-replicate, length-set, length-append, length-replicate}
use Rattle.std.proofs.Math.Seq.{get_or-append_seam}
use Rattle.digit_route.specs.States.{BatchState}
use Rattle.event_floor.specs.declared.unlinked.Unlinked.{Unlinked}
use Rattle.event_floor.specs.Inboxes.{QueuedState, inbox_at, as_linked, no_batch, IsUnlinked, IsUnlinkedOf, NumbersRise, SomeQueued, NoneQueued, HasNoFront, LeavesFront}
use Rattle.event_floor.proofs.FloorLaws.{inbox_read}
use Rattle.event_floor.specs.Unlinked.{UnlinkedState, unlinked_of, HasUnlinked, WaitsUnlinked, IsIndexOf}

abbrev pub batch_at : List QueuedState → ℕ → QueuedState
batch_at ps k = get_or ps k no_batch

abbrev pub Entry : ℕ → ℕ → Unlinked
Entry sender inbox = record { sender = sender; inbox = inbox }

-- ---- in the inbox of one desk

pushed_before : (ps : List QueuedState) (p : QueuedState) (n s : ℕ) → HasUnlinked ps n s → HasUnlinked (ps ++ p ∷ []) n s
pushed_before ps p n s (k, l, unlinked, is) =
    let e : batch_at (ps ++ p ∷ []) k ≡ batch_at ps k = get_or_append_left ps (p ∷ []) no_batch k l in
    (k, (let a = length-append ps (p ∷ []) in omega (arith, l, a)), subst (λ z. IsUnlinked n z) (sym e) unlinked, ap (λ (z : QueuedState). z.batch.sender) e ∙ is)

pushed_here : (ps : List QueuedState) (p : QueuedState) → p.batch.linked ≡ false → HasUnlinked (ps ++ p ∷ []) p.batch.number p.batch.sender
pushed_here ps p unlinked =
    let e : batch_at (ps ++ p ∷ []) (length ps) ≡ p = get_or-append_seam ps p [] no_batch in
    (length ps, (let a = length-append ps (p ∷ []) in omega (arith, a)), subst (λ z. IsUnlinked p.batch.number z) (sym e) (refl, unlinked), ap (λ (z : QueuedState). z.batch.sender) e)

pushed_cases : (ps : List QueuedState) (p : QueuedState) (n s : ℕ) → HasUnlinked (ps ++ p ∷ []) n s → HasUnlinked ps n s ⊎ ((p.batch.number ≡ n) × (p.batch.sender ≡ s))
pushed_cases ps p n s (k, l, unlinked, is) =
    ⊎_elim (λ (m : k < length ps).
    let e : batch_at (ps ++ p ∷ []) k ≡ batch_at ps k = get_or_append_left ps (p ∷ []) no_batch k m in
    inl (k, m, subst (λ z. IsUnlinked n z) e unlinked, sym (ap (λ (z : QueuedState). z.batch.sender) e) ∙ is))
    (λ (m : length ps ≤ k).
    let last : k ≡ length ps = (let a = length-append ps (p ∷ []) in omega (arith, l, m, a)) in
    let e : batch_at (ps ++ p ∷ []) k ≡ p = ap (batch_at (ps ++ p ∷ [])) last ∙ get_or-append_seam ps p [] no_batch in
    inr ((subst (λ z. IsUnlinked n z) e unlinked).0, sym (ap (λ (z : QueuedState). z.batch.sender) e) ∙ is)) (cases_lt k (length ps))

popped : (p : QueuedState) (ps : List QueuedState) (n s : ℕ) → p.batch.linked ≡ true → HasUnlinked (p ∷ ps) n s → HasUnlinked ps n s
popped p ps n s linked (zero, l, unlinked, is) = absurd (cc)
popped p ps n s linked (suc k, l, unlinked, is) = (k, omega (arith, l), unlinked, is)

popped_back : (p : QueuedState) (ps : List QueuedState) (n s : ℕ) → HasUnlinked ps n s → HasUnlinked (p ∷ ps) n s
popped_back p ps n s (k, l, unlinked, is) = (suc k, omega (arith, l), unlinked, is)

-- the inbox with the batch at a place linked
abbrev pub linked_at : List QueuedState → ℕ → List QueuedState
linked_at ps k = set ps k (as_linked (batch_at ps k))

-- two places with one number are one
one_place : (ps : List QueuedState) (i j : ℕ) → NumbersRise ps → i < length ps → j < length ps → (batch_at ps i).batch.number ≡ (batch_at ps j).batch.number → i ≡ j
one_place ps i j rise l m e =
    ⊎_elim (λ (below : i < j). let r = rise i j no_batch below m in absurd (omega (arith, r, e)))
    (λ (above : j ≤ i). ⊎_elim (λ (same : (eqb i j ≡ true) × (i ≡ j)). same.1)
    (λ (other : (eqb i j ≡ false) × (i ≢ j)). let ne = other.1 in let r = rise j i no_batch (omega (arith, above, ne)) l in absurd (omega (arith, r, e))) (eqb_tells i j)) (cases_lt i j)

linked_cases : (ps : List QueuedState) (k number n s : ℕ) → NumbersRise ps → k < length ps → IsUnlinked number (batch_at ps k) → HasUnlinked (linked_at ps k) n s → HasUnlinked ps n s × (n ≢ number)
linked_cases ps k number n s rise l is_unlinked (i, m, unlinked, is) =
    let m' : i < length ps = (let e = length-set ps k (as_linked (batch_at ps k)) in omega (arith, m, e)) in
    ⊎_elim (λ (same : (eqb i k ≡ true) × (i ≡ k)).
    let e : batch_at (linked_at ps k) i ≡ as_linked (batch_at ps k) = ap (batch_at (linked_at ps k)) same.1 ∙ get_or-set_same ps k (as_linked (batch_at ps k)) no_batch l in
    let says : true ≡ false = sym (ap (λ (z : QueuedState). z.batch.linked) e) ∙ unlinked.1 in absurd (cc))
    (λ (other : (eqb i k ≡ false) × (i ≢ k)).
    let e : batch_at (linked_at ps k) i ≡ batch_at ps i = get_or-set_other ps k i (as_linked (batch_at ps k)) no_batch other.1 in
    let was : IsUnlinked n (batch_at ps i) = subst (λ z. IsUnlinked n z) e unlinked in
    ((i, m', was, sym (ap (λ (z : QueuedState). z.batch.sender) e) ∙ is), λ (q : n ≡ number). other.1 (one_place ps i k rise m' l (was.0 ∙ (q ∙ sym is_unlinked.0))))) (eqb_tells i k)

linked_others : (ps : List QueuedState) (k number n s : ℕ) → IsUnlinked number (batch_at ps k) → HasUnlinked ps n s → n ≢ number → HasUnlinked (linked_at ps k) n s
linked_others ps k number n s is_unlinked (i, m, unlinked, is) ne =
    let apart : i ≢ k = λ (q : i ≡ k). ne (sym unlinked.0 ∙ (ap (λ z. (batch_at ps z).batch.number) q ∙ is_unlinked.0)) in
    let e : batch_at (linked_at ps k) i ≡ batch_at ps i = get_or-set_other ps k i (as_linked (batch_at ps k)) no_batch apart in
    (i, (let q = length-set ps k (as_linked (batch_at ps k)) in omega (arith, m, q)), subst (λ z. IsUnlinked n z) (sym e) unlinked, ap (λ (z : QueuedState). z.batch.sender) e ∙ is)

-- ---- in the inboxes of all desks, where that of b is another

set_here : (old : List (List QueuedState)) (b : ℕ) (ps : List QueuedState) (n s : ℕ) → b < length old → HasUnlinked ps n s → WaitsUnlinked (set old b ps) n s b
set_here old b ps n s l h =
    ((let e = length-set old b ps in omega (arith, l, e)), subst (λ z. HasUnlinked z n s) (sym (get_or-set_same old b ps [] l)) h)

set_other : (old : List (List QueuedState)) (b : ℕ) (ps : List QueuedState) (n s c : ℕ) → c ≢ b → WaitsUnlinked old n s c → WaitsUnlinked (set old b ps) n s c
set_other old b ps n s c ne (l, h) =
    ((let e = length-set old b ps in omega (arith, l, e)), subst (λ z. HasUnlinked z n s) (sym (get_or-set_other old b c ps [] ne)) h)

set_cases : (old : List (List QueuedState)) (b : ℕ) (ps : List QueuedState) (n s c : ℕ) → b < length old → WaitsUnlinked (set old b ps) n s c
    → ((c ≡ b) × HasUnlinked ps n s) ⊎ ((c ≢ b) × WaitsUnlinked old n s c)
set_cases old b ps n s c l (m, h) =
    ⊎_elim (λ (same : (eqb c b ≡ true) × (c ≡ b)).
    inl (same.1, subst (λ z. HasUnlinked z n s) (get_or-set_same old b ps [] l) (subst (λ z. HasUnlinked (inbox_at (set old b ps) z) n s) same.1 h)))
    (λ (other : (eqb c b ≡ false) × (c ≢ b)).
    inr (other.1, ((let e = length-set old b ps in omega (arith, m, e)), subst (λ z. HasUnlinked z n s) (get_or-set_other old b c ps [] other.1) h))) (eqb_tells c b)

-- ---- the index, after a batch is taken

pub index_taken : (old : List (List QueuedState)) (v : UnlinkedState) (b : ℕ) (p : QueuedState) (ps : List QueuedState) → IsIndexOf old v → b < length old → inbox_at old b ≡ p ∷ ps → p.batch.linked ≡ true
    → IsIndexOf (set old b ps) v
index_taken old v b p ps index l front linked = record {
  desks = index.desks ∙ sym (length-set old b ps);
  waits = λ n h found.
      let w = index.waits n h found in
      ⊎_elim (λ (same : (eqb h.inbox b ≡ true) × (h.inbox ≡ b)).
      let here : HasUnlinked (p ∷ ps) n h.sender = subst (λ z. HasUnlinked z n h.sender) (ap (inbox_at old) same.1 ∙ front) w.1 in
      subst (λ z. WaitsUnlinked (set old b ps) n h.sender z) (sym same.1) (set_here old b ps n h.sender l (popped p ps n h.sender linked here)))
      (λ (other : (eqb h.inbox b ≡ false) × (h.inbox ≢ b)). set_other old b ps n h.sender h.inbox other.1 w) (eqb_tells h.inbox b);
  known = λ n s c w.
      ⊎_elim (λ (here : (c ≡ b) × HasUnlinked ps n s).
      index.known n s c (subst (λ z. WaitsUnlinked old n s z) (sym here.0) (l, subst (λ z. HasUnlinked z n s) (sym front) (popped_back p ps n s here.1))))
      (λ (there : (c ≢ b) × WaitsUnlinked old n s c). index.known n s c there.1) (set_cases old b ps n s c l w);
}

-- or nothing is
pub index_after_take : (old : List (List QueuedState)) (v : UnlinkedState) (b : ℕ) (x new : List QueuedState) (result : Option BatchState) → IsIndexOf old v → b < length old → x ≡ get_or old b x
    → MatchOption result (HasNoFront x × (new ≡ x)) (λ (batch : BatchState). LeavesFront batch x new) → IsIndexOf (set old b new) v
index_after_take old v b x new None index l read left =
    let same : set old b new ≡ old = ap (set old b) (left.1 ∙ sym (inbox_read old b x l read)) ∙ set-get_or old b [] in
    subst (λ z. IsIndexOf z v) (sym same) index
index_after_take old v b x new (Some batch) index l read left = index_taken old v b left.front new index l (inbox_read old b x l read ∙ left.is_front) left.linked

some_is : {X : Type 0} (a b : X) → Some a ≡ Some b → a ≡ b
some_is a b e = ap (λ (z : Option _). unwrap_or z a) e

none_some : {X : Type 0} (a : X) → None ≡ Some a → ⊥
none_some a e = absurd (cc)

-- ---- after a batch is sent

pub index_sent : (old : List (List QueuedState)) (v w : UnlinkedState) (t number sender : ℕ) (p : QueuedState) → IsIndexOf old v → t < length old → p.batch.number ≡ number → p.batch.sender ≡ sender
    → p.batch.linked ≡ false → unlinked_of v number ≡ None → w.desks ≡ v.desks → ((n : ℕ) → unlinked_of w n ≡ cond (nat_eq number n) (Some (Entry sender t)) (unlinked_of v n))
    → IsIndexOf (set old t (inbox_at old t ++ p ∷ [])) w
index_sent old v w t number sender p index l is_number is_sender unlinked absent desks becomes =
    let ps = inbox_at old t in
    let now = λ (n : ℕ) (e : eqb number n ≡ true). becomes n ∙ ap (λ z. cond z (Some (Entry sender t)) (unlinked_of v n)) e in
    let still = λ (n : ℕ) (e : eqb number n ≡ false). becomes n ∙ ap (λ z. cond z (Some (Entry sender t)) (unlinked_of v n)) e in
    let here : (n s : ℕ) → HasUnlinked (ps ++ p ∷ []) n s → WaitsUnlinked (set old t (ps ++ p ∷ [])) n s t = λ n s h. set_here old t (ps ++ p ∷ []) n s l h in
    let kept : (n s c : ℕ) → WaitsUnlinked old n s c → unlinked_of w n ≡ Some (Entry s c) = λ n s c u.
    let e = index.known n s c u in
    ⊎_elim (λ (same : (eqb number n ≡ true) × (number ≡ n)). absurd (none_some (Entry s c) (sym absent ∙ (ap (unlinked_of v) same.1 ∙ e))))
    (λ (other : (eqb number n ≡ false) × (number ≢ n)). still n other.0 ∙ e) (eqb_tells number n) in
    record {
      desks = desks ∙ (index.desks ∙ sym (length-set old t (ps ++ p ∷ [])));
      waits = λ n h found.
          ⊎_elim (λ (same : (eqb number n ≡ true) × (number ≡ n)).
          let e : Entry sender t ≡ h = some_is (Entry sender t) h (sym (now n same.0) ∙ found) in
          let last : HasUnlinked (ps ++ p ∷ []) n sender = subst (λ z. HasUnlinked (ps ++ p ∷ []) n z) is_sender
          (subst (λ z. HasUnlinked (ps ++ p ∷ []) z p.batch.sender) (is_number ∙ same.1) (pushed_here ps p unlinked)) in
          subst (λ (z : Unlinked). WaitsUnlinked (set old t (ps ++ p ∷ [])) n z.sender z.inbox) e (here n sender last))
          (λ (other : (eqb number n ≡ false) × (number ≢ n)).
          let u = index.waits n h (sym (still n other.0) ∙ found) in
          ⊎_elim (λ (same : (eqb h.inbox t ≡ true) × (h.inbox ≡ t)).
          subst (λ z. WaitsUnlinked (set old t (ps ++ p ∷ [])) n h.sender z) (sym same.1)
          (here n h.sender (pushed_before ps p n h.sender (subst (λ z. HasUnlinked (inbox_at old z) n h.sender) same.1 u.1))))
          (λ (apart : (eqb h.inbox t ≡ false) × (h.inbox ≢ t)). set_other old t (ps ++ p ∷ []) n h.sender h.inbox apart.1 u) (eqb_tells h.inbox t)) (eqb_tells number n);
      known = λ n s c u.
          ⊎_elim (λ (at : (c ≡ t) × HasUnlinked (ps ++ p ∷ []) n s).
          ⊎_elim (λ (before : HasUnlinked ps n s). kept n s c (subst (λ z. WaitsUnlinked old n s z) (sym at.0) (l, before)))
          (λ (last : (p.batch.number ≡ n) × (p.batch.sender ≡ s)).
          let e : number ≡ n = sym is_number ∙ last.0 in
          let q : Entry sender t ≡ Entry s c = ap (λ z. Entry z t) (sym is_sender ∙ last.1) ∙ ap (Entry s) (sym at.0) in
          ⊎_elim (λ (same : (eqb number n ≡ true) × (number ≡ n)). now n same.0 ∙ ap Some q)
          (λ (other : (eqb number n ≡ false) × (number ≢ n)). absurd (other.1 e)) (eqb_tells number n)) (pushed_cases ps p n s at.1))
          (λ (there : (c ≢ t) × WaitsUnlinked old n s c). kept n s c there.1) (set_cases old t (ps ++ p ∷ []) n s c l u);
    }

-- an index that answers as another does
index_alike : (old : List (List QueuedState)) (v w : UnlinkedState) → IsIndexOf old v → w.desks ≡ v.desks → ((n : ℕ) → unlinked_of w n ≡ unlinked_of v n) → IsIndexOf old w
index_alike old v w index desks same = record {
  desks = desks ∙ index.desks;
  waits = λ n h found. index.waits n h (sym (same n) ∙ found);
  known = λ n s c waits. same n ∙ index.known n s c waits;
}

-- a number that wasn't there was taken out, at once or after it came
pub index_without : (old : List (List QueuedState)) (v w : UnlinkedState) (number : ℕ) → IsIndexOf old v → unlinked_of v number ≡ None → w.desks ≡ v.desks
    → ((n : ℕ) → unlinked_of w n ≡ cond (nat_eq number n) None (unlinked_of v n)) → IsIndexOf old w
index_without old v w number index absent desks removed =
    index_alike old v w index desks (λ n.
    ⊎_elim (λ (same : (eqb number n ≡ true) × (number ≡ n)). removed n ∙ (ap (λ z. cond z None (unlinked_of v n)) same.0 ∙ (sym absent ∙ ap (unlinked_of v) same.1)))
    (λ (other : (eqb number n ≡ false) × (number ≢ n)). removed n ∙ ap (λ z. cond z None (unlinked_of v n)) other.0) (eqb_tells number n))

pub index_refused : (old : List (List QueuedState)) (v w u : UnlinkedState) (number : ℕ) (h : Unlinked) → IsIndexOf old v → unlinked_of v number ≡ None → w.desks ≡ v.desks → u.desks ≡ w.desks
    → ((n : ℕ) → unlinked_of w n ≡ cond (nat_eq number n) (Some h) (unlinked_of v n)) → ((n : ℕ) → unlinked_of u n ≡ cond (nat_eq number n) None (unlinked_of w n)) → IsIndexOf old u
index_refused old v w u number h index absent desks desks' added removed =
    index_without old v u number index absent (desks' ∙ desks) (λ n.
    ⊎_elim (λ (same : (eqb number n ≡ true) × (number ≡ n)).
    removed n ∙ (ap (λ z. cond z None (unlinked_of w n)) same.0 ∙ sym (ap (λ z. cond z None (unlinked_of v n)) same.0)))
    (λ (other : (eqb number n ≡ false) × (number ≢ n)).
    removed n ∙ (ap (λ z. cond z None (unlinked_of w n)) other.0 ∙ (added n ∙
    (ap (λ z. cond z (Some h) (unlinked_of v n)) other.0 ∙ sym (ap (λ z. cond z None (unlinked_of v n)) other.0))))) (eqb_tells number n))

-- a number above all is not there
pub absent_above : (old : List (List QueuedState)) (v : UnlinkedState) (number : ℕ) (o : Option Unlinked) → IsIndexOf old v
    → ((b : ℕ) → b < length old → All (λ (p : QueuedState). p.batch.number < number) (inbox_at old b)) → unlinked_of v number ≡ o → o ≡ None
absent_above old v number None index below is = refl
absent_above old v number (Some h) index below is =
    let (l, (k, m, unlinked, sender)) = index.waits number h is in let b = below h.inbox l k no_batch m in let e = unlinked.0 in absurd (omega (arith, b, e))

-- ---- after a batch is linked

pub index_linked : (old : List (List QueuedState)) (v w : UnlinkedState) (b k number : ℕ) → IsIndexOf old v → NumbersRise (inbox_at old b) → b < length old → k < length (inbox_at old b)
    → IsUnlinked number (batch_at (inbox_at old b) k) → w.desks ≡ v.desks → ((n : ℕ) → unlinked_of w n ≡ cond (nat_eq number n) None (unlinked_of v n))
    → IsIndexOf (set old b (linked_at (inbox_at old b) k)) w
index_linked old v w b k number index rise l m unlinked desks becomes =
    let ps = inbox_at old b in
    let there = index.known number (batch_at ps k).batch.sender b (l, (k, m, unlinked, refl)) in
    let kept : (n s c : ℕ) → n ≢ number → WaitsUnlinked old n s c → unlinked_of w n ≡ Some (Entry s c) = λ n s c ne u.
    ⊎_elim (λ (same : (eqb number n ≡ true) × (number ≡ n)). absurd (ne (sym same.1)))
    (λ (other : (eqb number n ≡ false) × (number ≢ n)). becomes n ∙ (ap (λ z. cond z None (unlinked_of v n)) other.0 ∙ index.known n s c u)) (eqb_tells number n) in
    record {
      desks = desks ∙ (index.desks ∙ sym (length-set old b (linked_at ps k)));
      waits = λ n h found.
          ⊎_elim (λ (same : (eqb number n ≡ true) × (number ≡ n)).
          absurd (none_some h (sym (becomes n ∙ ap (λ z. cond z None (unlinked_of v n)) same.0) ∙ found)))
          (λ (other : (eqb number n ≡ false) × (number ≢ n)).
          let u = index.waits n h (sym (becomes n ∙ ap (λ z. cond z None (unlinked_of v n)) other.0) ∙ found) in
          ⊎_elim (λ (same : (eqb h.inbox b ≡ true) × (h.inbox ≡ b)).
          let has : HasUnlinked ps n h.sender = subst (λ z. HasUnlinked (inbox_at old z) n h.sender) same.1 u.1 in
          subst (λ z. WaitsUnlinked (set old b (linked_at ps k)) n h.sender z) (sym same.1)
          (set_here old b (linked_at ps k) n h.sender l (linked_others ps k number n h.sender unlinked has (λ e. other.1 (sym e)))))
          (λ (apart : (eqb h.inbox b ≡ false) × (h.inbox ≢ b)). set_other old b (linked_at ps k) n h.sender h.inbox apart.1 u) (eqb_tells h.inbox b)) (eqb_tells number n);
      known = λ n s c u.
          ⊎_elim (λ (at : (c ≡ b) × HasUnlinked (linked_at ps k) n s).
          let was = linked_cases ps k number n s rise m unlinked at.1 in
          kept n s c was.1 (subst (λ z. WaitsUnlinked old n s z) (sym at.0) (l, was.0)))
          (λ (other : (c ≢ b) × WaitsUnlinked old n s c).
          let ne : n ≢ number = λ (e : n ≡ number).
          other.0 (ap (λ (z : Unlinked). z.inbox) (some_is (Entry s c) (Entry (batch_at ps k).batch.sender b) (sym (index.known n s c other.1) ∙ (ap (unlinked_of v) e ∙ there)))) in
          kept n s c ne other.1) (set_cases old b (linked_at ps k) n s c l u);
    }

-- ---- what the index tells

-- a batch that still has to be linked is known by its number, from any stand-in
unlinked_known : (old : List (List QueuedState)) (v : UnlinkedState) (b k number : ℕ) (d : QueuedState) → IsIndexOf old v → b < length old → k < length (inbox_at old b)
    → IsUnlinked number (get_or (inbox_at old b) k d)
    → unlinked_of v number ≡ Some (Entry (get_or (inbox_at old b) k d).batch.sender b)
unlinked_known old v b k number d index l m unlinked =
    let e : get_or (inbox_at old b) k d ≡ batch_at (inbox_at old b) k = get_or_default (inbox_at old b) k d no_batch m in
    index.known number (get_or (inbox_at old b) k d).batch.sender b (l, (k, m, subst (λ z. IsUnlinked number z) e unlinked, sym (ap (λ (z : QueuedState). z.batch.sender) e)))

pub none_waits : (old : List (List QueuedState)) (v : UnlinkedState) (number : ℕ) → IsIndexOf old v → unlinked_of v number ≡ None → NoneQueued (IsUnlinked number) old
none_waits old v number index absent b l k d m unlinked = none_some _ (sym absent ∙ unlinked_known old v b k number d index l m unlinked)

pub tells_unlinked : (old : List (List QueuedState)) (v : UnlinkedState) (sender : ℕ) (answer : Bool) → IsIndexOf old v
    → MatchBool answer ((n : ℕ) × (h : Unlinked) × (unlinked_of v n ≡ Some h) × (h.sender ≡ sender)) ((n : ℕ) (h : Unlinked) → unlinked_of v n ≡ Some h → h.sender ≢ sender)
    → MatchBool answer (SomeQueued (IsUnlinkedOf sender) old) (NoneQueued (IsUnlinkedOf sender) old)
tells_unlinked old v sender true index (n, h, found, is) =
    let (l, (k, m, unlinked, sent)) = index.waits n h found in
    (h.inbox, l, (k, batch_at (inbox_at old h.inbox) k, m, get_or_default (inbox_at old h.inbox) k (batch_at (inbox_at old h.inbox) k) no_batch m, (sent ∙ is, unlinked.1)))
tells_unlinked old v sender false index none = λ b l k d m unlinked.
    none (get_or (inbox_at old b) k d).batch.number (Entry (get_or (inbox_at old b) k d).batch.sender b) (unlinked_known old v b k _ d index l m (refl, unlinked.1)) unlinked.0

-- so many inboxes with no batch, and nothing in the index
pub index_new : (count : ℕ) → IsIndexOf (replicate count []) (record { desks = count; entries = [] })
index_new count = record {
  desks = sym (length-replicate {A = List QueuedState} count []);
  waits = λ number h found. absurd (cc);
  known = λ number sender inbox (m, (k, l, unlinked, is)).
      let n : inbox < count = subst (λ z. inbox < z) (length-replicate {A = List QueuedState} count []) m in
      let none : inbox_at (replicate count []) inbox ≡ [] = get_or-replicate {A = List QueuedState} count inbox [] [] n in
      let e : k < 0 = subst (λ (z : List QueuedState). k < length z) none l in
      absurd (omega (arith, e));
}
