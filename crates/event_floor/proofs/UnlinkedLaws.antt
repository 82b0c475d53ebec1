-- The index of the batches that still have to be linked, after one comes and after one goes.
use Rattle.std.proofs.Common.{◌≡◌, ◌≢◌, ℕ, not, ◌+◌, ◌-◌, ◌<◌, ◌≤◌, Bool, true, false, cond, List, [], ◌∷◌, length, get_or, set, replicate, refl, sym, ◌∙◌, subst, ap, arith, ⊎_elim, eqb, IsPermutation}
use Rattle.std.specs.Prelude.{Option, Some, None, IfSome, MatchBool, nat_eq}
use Rattle.std.specs.List.{IsDistinct}
use Rattle.std.specs.Map.{lookup, keys_of, values_of, remove_entry}
use Rattle.std.specs.Option.{option_map, unwrap_or}
use Rattle.std.proofs.lemmas.Bool.Decides.{eqb_tells}
use Rattle.std.proofs.lemmas.Cmp.{nat_eq_equiv}
use Rattle.std.proofs.lemmas.List.{get_or-set_same, get_or-set_other, get_or_read, get_or-replicate, length-set, length-replicate}
use Rattle.std.proofs.lemmas.List.Sums.{sum_by-cons, count_by-le-length}
use Rattle.std.proofs.lemmas.Map.{lookup-none}
use Rattle.std.proofs.lemmas.Map.Entries.{length-values_of, lookup_head, lookup_tail, none_past_head, sum_by_values_permutation, sum_by-remove_entry}
use Rattle.std.proofs.lemmas.Map.Keys.{IsDistinct-tail}
use Rattle.event_floor.specs.declared.unlinked.Unlinked.{Unlinked}
use Rattle.event_floor.specs.Unlinked.{UnlinkedState, AreCounted, sent_by}

-- a batch counts once for its sender, and not for the others
abbrev weight : ℕ → Unlinked → ℕ
weight sender h = cond (nat_eq h.sender sender) 1 0

weight_own : (sender : ℕ) (h : Unlinked) → h.sender ≡ sender → weight sender h ≡ 1
weight_own sender h e =
    ⊎_elim (λ (same : (eqb h.sender sender ≡ true) × (h.sender ≡ sender)). ap (λ z. cond z 1 0) same.0)
    (λ (other : (eqb h.sender sender ≡ false) × (h.sender ≢ sender)). absurd (other.1 e)) (eqb_tells h.sender sender)

weight_other : (sender : ℕ) (h : Unlinked) → h.sender ≢ sender → weight sender h ≡ 0
weight_other sender h ne =
    ⊎_elim (λ (same : (eqb h.sender sender ≡ true) × (h.sender ≡ sender)). absurd (ne same.1))
    (λ (other : (eqb h.sender sender ≡ false) × (h.sender ≢ sender)). ap (λ z. cond z 1 0) other.0) (eqb_tells h.sender sender)

-- no desk sent more of them than there are
pub sent_within : (sender : ℕ) (es : List (ℕ × Unlinked)) → sent_by sender es ≤ length es
sent_within sender es =
    let l = count_by-le-length (λ (h : Unlinked). nat_eq h.sender sender) (values_of es) in let e = length-values_of es in omega (arith, l, e)

sent_more : (sender n : ℕ) (h : Unlinked) (es fs : List (ℕ × Unlinked)) → IsPermutation ((n, h) ∷ es) fs → sent_by sender fs ≡ weight sender h + sent_by sender es
sent_more sender n h es fs p = sum_by_values_permutation (weight sender) ((n, h) ∷ es) fs p ∙ sum_by-cons (weight sender) h (values_of es)

sent_fewer : (sender n : ℕ) (h : Unlinked) (es fs : List (ℕ × Unlinked)) → IsPermutation (remove_entry (nat_eq n) es) fs → lookup (nat_eq n) es ≡ Some h
    → sent_by sender fs + weight sender h ≡ sent_by sender es
sent_fewer sender n h es fs p found =
    let r = sum_by-remove_entry (weight sender) (nat_eq n) es in
    let q = sum_by_values_permutation (weight sender) (remove_entry (nat_eq n) es) fs p in
    let w : unwrap_or (option_map (weight sender) (lookup (nat_eq n) es)) 0 ≡ weight sender h = ap (λ z. unwrap_or (option_map (weight sender) z) 0) found in
    omega (arith, r, q, w)

-- the sender of a batch that is there has sent one
pub sent_some_of : (n : ℕ) (h : Unlinked) (es : List (ℕ × Unlinked)) → lookup (nat_eq n) es ≡ Some h → 1 ≤ sent_by h.sender es
sent_some_of n h es found =
    let r = sum_by-remove_entry (weight h.sender) (nat_eq n) es in
    let w : unwrap_or (option_map (weight h.sender) (lookup (nat_eq n) es)) 0 ≡ 1 = ap (λ z. unwrap_or (option_map (weight h.sender) z) 0) found ∙ weight_own h.sender h refl in
    omega (arith, r, w)

pub sent_none : (sender : ℕ) (es : List (ℕ × Unlinked)) → sent_by sender es ≡ 0 → (n : ℕ) (h : Unlinked) → lookup (nat_eq n) es ≡ Some h → h.sender ≢ sender
sent_none sender es none n h found is =
    let l = sent_some_of n h es found in let e : sent_by h.sender es ≡ 0 = rw is none in absurd (omega (arith, l, e))

abbrev pub SentOne : ℕ → List (ℕ × Unlinked) → Type 0
SentOne sender es = (n : ℕ) × (h : Unlinked) × (lookup (nat_eq n) es ≡ Some h) × (h.sender ≡ sender)

one_more : (sender : ℕ) (e : ℕ × Unlinked) (es : List (ℕ × Unlinked)) → IsDistinct nat_eq (keys_of (e ∷ es)) → SentOne sender es → SentOne sender (e ∷ es)
one_more sender e es distinct (n, h, found, is) =
    ⊎_elim (λ (same : (eqb n e.0 ≡ true) × (n ≡ e.0)).
    let none = lookup-none (nat_eq n) es (none_past_head nat_eq_equiv n e es distinct same.0) in absurd (cc))
    (λ (other : (eqb n e.0 ≡ false) × (n ≢ e.0)). (n, h, lookup_tail (nat_eq n) e es other.0 ∙ found, is)) (eqb_tells n e.0)

eqb_same : (n : ℕ) → nat_eq n n ≡ true
eqb_same n = ⊎_elim (λ (same : (eqb n n ≡ true) × (n ≡ n)). same.0) (λ (other : (eqb n n ≡ false) × (n ≢ n)). absurd (other.1 refl)) (eqb_tells n n)

-- a desk that has sent one sent one that is there
pub sent_some : (sender : ℕ) (es : List (ℕ × Unlinked)) → IsDistinct nat_eq (keys_of es) → 1 ≤ sent_by sender es → SentOne sender es
sent_some sender [] distinct l = absurd (omega (arith, l))
sent_some sender (e ∷ es) distinct l =
    let c : sent_by sender (e ∷ es) ≡ weight sender e.1 + sent_by sender es = sum_by-cons (weight sender) e.1 (values_of es) in
    ⊎_elim (λ (same : (eqb e.1.sender sender ≡ true) × (e.1.sender ≡ sender)). (e.0, e.1, lookup_head (nat_eq e.0) e es (eqb_same e.0), same.1))
    (λ (other : (eqb e.1.sender sender ≡ false) × (e.1.sender ≢ sender)).
    let z = weight_other sender e.1 other.1 in
    one_more sender e es distinct (sent_some sender es (IsDistinct-tail nat_eq e.0 (keys_of es) distinct) (omega (arith, l, c, z)))) (eqb_tells e.1.sender sender)

either : (P : Unlinked → Type 0) (b : Bool) (w o : Option Unlinked) → IfSome w P → IfSome o P → IfSome (cond b w o) P
either P true w o h k = h
either P false w o h k = k

-- the senders stay desks, where the number n has w, and the others have what they had
senders_after : (n desks : ℕ) (w : Option Unlinked) (es fs : List (ℕ × Unlinked)) → IfSome w (λ (h : Unlinked). h.sender < desks)
    → ((q : ℕ) → IfSome (lookup (nat_eq q) es) (λ (h : Unlinked). h.sender < desks)) → ((q : ℕ) → lookup (nat_eq q) fs ≡ cond (nat_eq n q) w (lookup (nat_eq q) es))
    → (q : ℕ) → IfSome (lookup (nat_eq q) fs) (λ (h : Unlinked). h.sender < desks)
senders_after n desks w es fs h each becomes q = rw (becomes q) (either (λ (h : Unlinked). h.sender < desks) (nat_eq n q) w (lookup (nat_eq q) es) h (each q))

-- the counts, where that of one desk is another
counted_after : (counts : List ℕ) (es fs : List (ℕ × Unlinked)) (a y : ℕ) → a < length counts → ((s : ℕ) → s < length counts → get_or counts s 0 ≡ sent_by s es)
    → y ≡ sent_by a fs → ((s : ℕ) → a ≢ s → sent_by s fs ≡ sent_by s es) → (s : ℕ) → s < length (set counts a y) → get_or (set counts a y) s 0 ≡ sent_by s fs
counted_after counts es fs a y l each own others s m =
    let n : s < length counts = (let e = length-set counts a y in omega (arith, m, e)) in
    ⊎_elim (λ (same : (eqb s a ≡ true) × (s ≡ a)). rw same.1 (get_or-set_same counts a y 0 l ∙ own))
    (λ (other : (eqb s a ≡ false) × (s ≢ a)). get_or-set_other counts a s y 0 other.1 ∙ (each s n ∙ sym (others s (λ e. other.1 (sym e))))) (eqb_tells s a)

-- a count that was read
pub counted_read : (counts : List ℕ) (es : List (ℕ × Unlinked)) (sender x : ℕ) → AreCounted counts es → sender < length counts → x ≡ get_or counts sender x → x ≡ sent_by sender es
counted_read counts es sender x c l read = get_or_read counts sender x l read 0 ∙ c.counted sender l

pub added_counted : (counts : List ℕ) (es fs : List (ℕ × Unlinked)) (n : ℕ) (h : Unlinked) (x : ℕ) → AreCounted counts es → h.sender < length counts → x ≡ get_or counts h.sender x
    → IsPermutation ((n, h) ∷ es) fs → IsDistinct nat_eq (keys_of fs) → ((q : ℕ) → lookup (nat_eq q) fs ≡ cond (nat_eq n q) (Some h) (lookup (nat_eq q) es))
    → AreCounted (set counts h.sender (x + 1)) fs
added_counted counts es fs n h x old l read p distinct becomes = record {
  distinct = distinct;
  senders = rw (length-set counts h.sender (x + 1)) (senders_after n (length counts) (Some h) es fs l old.senders becomes);
  counted = counted_after counts es fs h.sender (x + 1) l old.counted
      (let m = sent_more h.sender n h es fs p in let w = weight_own h.sender h refl in let e = counted_read counts es h.sender x old l read in omega (arith, m, w, e))
      (λ s ne. let m = sent_more s n h es fs p in let w = weight_other s h ne in omega (arith, m, w));
}

pub removed_counted : (counts : List ℕ) (es fs : List (ℕ × Unlinked)) (n : ℕ) (h : Unlinked) (x : ℕ) → AreCounted counts es → h.sender < length counts → x ≡ get_or counts h.sender x
    → IsPermutation (remove_entry (nat_eq n) es) fs → lookup (nat_eq n) es ≡ Some h → IsDistinct nat_eq (keys_of fs)
    → ((q : ℕ) → lookup (nat_eq q) fs ≡ cond (nat_eq n q) None (lookup (nat_eq q) es)) → AreCounted (set counts h.sender (x - 1)) fs
removed_counted counts es fs n h x old l read p found distinct becomes = record {
  distinct = distinct;
  senders = rw (length-set counts h.sender (x - 1)) (senders_after n (length counts) None es fs tt old.senders becomes);
  counted = counted_after counts es fs h.sender (x - 1) l old.counted
      (let m = sent_fewer h.sender n h es fs p found in let w = weight_own h.sender h refl in let e = counted_read counts es h.sender x old l read in omega (arith, m, w, e))
      (λ s ne. let m = sent_fewer s n h es fs p found in let w = weight_other s h ne in omega (arith, m, w));
}

-- the sender of a batch that is there is a desk
pub sender_within : (counts : List ℕ) (es : List (ℕ × Unlinked)) (n : ℕ) (h : Unlinked) → AreCounted counts es → lookup (nat_eq n) es ≡ Some h → h.sender < length counts
sender_within counts es n h c found = subst (λ (z : Option Unlinked). IfSome z (λ (h : Unlinked). h.sender < length counts)) found (c.senders n)

-- the count tells whether a batch of the sender is there
pub tells_sent : (sender x : ℕ) (es : List (ℕ × Unlinked)) → IsDistinct nat_eq (keys_of es) → x ≡ sent_by sender es
    → MatchBool (not (nat_eq x 0)) (SentOne sender es) ((n : ℕ) (h : Unlinked) → lookup (nat_eq n) es ≡ Some h → h.sender ≢ sender)
tells_sent sender x es distinct is =
    let SlotLists = λ (b : Bool). MatchBool (not b) (SentOne sender es) ((n : ℕ) (h : Unlinked) → lookup (nat_eq n) es ≡ Some h → h.sender ≢ sender) in
    ⊎_elim (λ (none : (eqb x 0 ≡ true) × (x ≡ 0)). subst SlotLists (sym none.0) (sent_none sender es (sym is ∙ none.1)))
    (λ (some : (eqb x 0 ≡ false) × (x ≢ 0)). let ne = some.1 in subst SlotLists (sym some.0) (sent_some sender es distinct (omega (arith, is, ne)))) (eqb_tells x 0)

-- with no batch, the count of each desk is 0
pub none_counted : (n : ℕ) (es : List (ℕ × Unlinked)) (counts : List ℕ) → es ≡ [] → counts ≡ replicate n 0 → AreCounted counts es
unfolding IsDistinct
none_counted n es counts none zeros = rw (none, zeros) (record {
  distinct = tt;
  senders = λ number. tt;
  counted = λ sender l. get_or-replicate n sender 0 0 (subst (λ z. sender < z) (length-replicate n 0) l);
})

pub none_seen : (n desks : ℕ) (es : List (ℕ × Unlinked)) (counts : List ℕ) → es ≡ [] → counts ≡ replicate n 0 → n ≡ desks
    → let v : UnlinkedState = record { desks = length counts; entries = es } in v ≡ record { desks = desks; entries = [] }
none_seen n desks es counts none zeros all =
    ap (λ (z : List (ℕ × Unlinked)). let v : UnlinkedState = record { desks = length counts; entries = z } in v) none
    ∙ ap (λ (z : ℕ). let v : UnlinkedState = record { desks = z; entries = [] } in v) (ap length zeros ∙ (length-replicate n 0 ∙ all))
