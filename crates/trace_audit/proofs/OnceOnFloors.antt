-- The lists of a floor have each slot of its drawn chunks once.
use Rattle.std.proofs.Common.{◌≡◌, ℕ, zero, suc, ◌+◌, ◌<◌, ◌≤◌, true, false, cond, List, [], ◌∷◌, ◌++◌, Option, Some, None, option_map, flat_map, Ok, Err, IfOk, IfErr, IsPermutation, Bool, refl, sym, ap, ◌∙◌, subst, arith, ⊎_elim, add-one, append_assoc, append-nil}
use Rattle.std.specs.List.{range_with_len}
use Rattle.std.proofs.lemmas.Bool.{cases_lt, lt-ltb, le-ltb}
use Rattle.std.proofs.lemmas.Grind.{flat_map-append}
use Rattle.std.proofs.lemmas.List.Sorted.{sum_by-IsPermutation, IsPermutation-append}
use Rattle.region_cut.specs.declared.slot.Slot.{Slot}
use Rattle.region_cut.specs.Classes.{slots_of}
use Rattle.pool_machine.specs.declared.chunk.DrawnChunk.{DrawnChunk}
use Rattle.pool_machine.specs.Laws.{ReachedIsSound}
use Rattle.region_cut.specs.Slots.{same_slot, times}
use Rattle.pool_machine.specs.Slots.{one_if, has_index, is_drawn_slot}
use Rattle.event_floor.specs.Floors.{FloorState}
use Rattle.event_floor.specs.headline.ListsSlots.{FloorsListSlots, ListsSlots, slots_on, slots_with}
use Rattle.slot_audit.specs.Audit.{class_noted, slots_for, IsDrawnSlot, FindsEachSlot, IsFault}
use Rattle.trace_audit.specs.FloorSlots.{HasEachOnce, IsFaultOn, IsVerdictOn, ShowsPool, TellsDrawn}
use Rattle.trace_audit.specs.Report.{Verdict}
use Rattle.trace_audit.specs.Steps.{IsFound, IsTold}
use Rattle.slot_audit.specs.declared.fault.Fault.{Fault}
use Rattle.slot_audit.specs.declared.fault.Fault.TheVariants.{Stranger, Doubled, Missing, NoMemory}

times_permuted : (s : Slot) (xs ys : List Slot) → IsPermutation xs ys → times s ys ≡ times s xs
times_permuted s xs ys p = sum_by-IsPermutation (λ r. cond (same_slot s r) 1 0) xs ys p

-- ---- lists that are joined

pub three_lists : (xs ys zs us vs ws : List Slot) → IsPermutation xs us → IsPermutation ys vs → IsPermutation zs ws → IsPermutation (xs ++ (ys ++ zs)) ((us ++ vs) ++ ws)
three_lists xs ys zs us vs ws p q r =
    subst (λ l. IsPermutation (xs ++ (ys ++ zs)) l) (sym (append_assoc us vs ws)) (IsPermutation-append xs us (ys ++ zs) (vs ++ ws) p (IsPermutation-append ys vs zs ws q r))

range_more : (a n : ℕ) → range_with_len a (suc n) ≡ range_with_len a n ++ (a + n) ∷ []
range_more a zero = ap (λ k. k ∷ []) (let z : a ≡ a + 0 = omega arith in z)
range_more a (suc n) = ap (λ ks. a ∷ ks) (range_more (a + 1) n ∙ ap (λ k. range_with_len (a + 1) n ++ k ∷ []) (let z : (a + 1) + n ≡ a + suc n = omega arith in z))

-- the slots with one desk more
pub desk_more : (v : FloorState) (lent : List Slot) (n : ℕ) (slots more : List Slot) → IsPermutation (lent ++ flat_map (slots_with v) (range_with_len 0 n)) slots
    → IsPermutation (slots_with v n) more → IsPermutation (lent ++ flat_map (slots_with v) (range_with_len 0 (n + 1))) (slots ++ more)
desk_more v lent n slots more p q =
    subst (λ w. IsPermutation w (slots ++ more)) (sym whole) (IsPermutation-append (lent ++ flat_map (slots_with v) (range_with_len 0 n)) slots (slots_with v n) more p q)
  where
    whole : lent ++ flat_map (slots_with v) (range_with_len 0 (n + 1)) ≡ (lent ++ flat_map (slots_with v) (range_with_len 0 n)) ++ slots_with v n
    whole =
        ap (λ k. lent ++ flat_map (slots_with v) (range_with_len 0 k)) (add-one n)
        ∙ (ap (λ ks. lent ++ flat_map (slots_with v) ks) (range_more 0 n)
        ∙ (ap (λ ss. lent ++ ss) (flat_map-append (slots_with v) (range_with_len 0 n) ((0 + n) ∷ [])
        ∙ ap (λ ss. flat_map (slots_with v) (range_with_len 0 n) ++ ss) (append-nil (slots_with v (0 + n)) ∙ ap (slots_with v) (let z : 0 + n ≡ n = omega arith in z)))
        ∙ sym (append_assoc lent (flat_map (slots_with v) (range_with_len 0 n)) (slots_with v n))))

-- ---- the drawn chunks

abbrev class_if : Option DrawnChunk → Option ℕ
class_if o = option_map (λ (d : DrawnChunk). d.class) o

has_slot : (i : ℕ) (o : Option DrawnChunk) → i < slots_for (class_if o) → has_index i o ≡ true
has_slot i None l = absurd (omega arith)
has_slot i (Some d) l = lt-ltb i (slots_of d.class) l

has_no_slot : (i : ℕ) (o : Option DrawnChunk) → (i < slots_for (class_if o) → ⊥) → has_index i o ≡ false
has_no_slot i None l = refl
has_no_slot i (Some d) l = ⊎_elim (λ (m : i < slots_of d.class). absurd (l m)) (λ (m : slots_of d.class ≤ i). le-ltb i (slots_of d.class) m) (cases_lt i (slots_of d.class))

module _ (sound : ReachedIsSound) (law : FloorsListSlots) (v : FloorState) (drawn : List (Option ℕ)) (p : ShowsPool v) (tells : TellsDrawn v drawn) where
  abbrev lists : ListsSlots v p.state
  lists = law v p.state p.passed p.shown

  -- no chunk beyond the last is drawn
  past : (k : ℕ) → 1024 ≤ k → (o : Option DrawnChunk) → p.state.drawn k ≡ o → None ≡ class_if o
  past k l None e = refl
  past k l (Some d) e =
      let a = ((sound p.state p.passed p.shown.reached).chunks_fit k d e).0 in
      let b = p.shown.frame.chunks in
      let f = p.few_chunks in
      absurd (omega (arith, a, b, f))

  classes : (k : ℕ) → class_noted drawn k ≡ class_if (p.state.drawn k)
  classes k = ⊎_elim (λ (l : k < 1024). tells.classes k l ∙ lists.class k) (λ (l : 1024 ≤ k). tells.no_more k l ∙ past k l (p.state.drawn k) refl) (cases_lt k 1024)

  drawn_slot : (s : Slot) → IsDrawnSlot drawn s → is_drawn_slot p.state.drawn s ≡ true
  drawn_slot s l = has_slot s.index (p.state.drawn s.chunk) (subst (λ o. s.index < slots_for o) (classes s.chunk) l)

  no_drawn_slot : (s : Slot) → (IsDrawnSlot drawn s → ⊥) → is_drawn_slot p.state.drawn s ≡ false
  no_drawn_slot s l = has_no_slot s.index (p.state.drawn s.chunk) (λ m. l (subst (λ o. s.index < slots_for o) (sym (classes s.chunk)) m))

  exactly : (found : List Slot) → IsPermutation (slots_on v) found → FindsEachSlot drawn found
  exactly found perm = record {
    all = λ s l. times_permuted s (slots_on v) found perm ∙ (lists.once s ∙ ap one_if (drawn_slot s l));
    no_other = λ s l. times_permuted s (slots_on v) found perm ∙ (lists.once s ∙ ap one_if (no_drawn_slot s l));
  }

  no_fault : (found : List Slot) (fault : Fault) → IsPermutation (slots_on v) found → IsFault drawn found fault → fault ≡ NoMemory
  no_fault found (Stranger s) perm f = let e = (exactly found perm).no_other s f.0.0 in let l = f.0.1 in absurd (omega (arith, e, l))
  no_fault found (Doubled s) perm f = let e = (exactly found perm).all s f.1.0.0 in let l = f.1.0.1 in absurd (omega (arith, e, l))
  no_fault found (Missing s) perm f = let e = (exactly found perm).all s f.2.0.0 in let l = f.2.0.1 in absurd (omega (arith, e, l))
  no_fault found NoMemory perm f = refl

-- an audit answers what is so of the lists
pub is_verdict : (v : FloorState) (r : Verdict) → IfOk r (λ _. HasEachOnce v) → IfErr r (λ fault. IsFaultOn v fault) → IsVerdictOn v r
is_verdict v (Ok u) h f = h
is_verdict v (Err fault) h f = f

-- so an audit of a floor finds nothing wrong
pub finds_nothing : ReachedIsSound → FloorsListSlots → (audits : Bool) (v : FloorState) (audit : Option Verdict) → ShowsPool v → IsFound audits v audit → IsTold audits audit
finds_nothing sound law true v None p f = f
finds_nothing sound law true v (Some (Ok u)) p f = tt
finds_nothing sound law true v (Some (Err fault)) p (drawn, found, tells, perm, f) = no_fault sound law v drawn p tells found fault perm f
finds_nothing sound law false v audit p none = none

-- what holds of the slots in some order holds of them in order
pub each_once : (v : FloorState) (drawn : List (Option ℕ)) (found : List Slot) → IsPermutation (slots_on v) found → FindsEachSlot drawn found → FindsEachSlot drawn (slots_on v)
each_once v drawn found perm e = record {
  all = λ s l. sym (times_permuted s (slots_on v) found perm) ∙ e.all s l;
  no_other = λ s l. sym (times_permuted s (slots_on v) found perm) ∙ e.no_other s l;
}
