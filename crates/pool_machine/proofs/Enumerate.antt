-- The slots of the drawn chunks, each once; lists of slots with the same occurrences.
use Rattle.std.proofs.Common.{◌≡◌, ℕ, zero, suc, ◌+◌, ◌<◌, Bool, true, false, ◌&&◌, ◌==◌, nat_lt, nat_le, cond, List, [], ◌∷◌, ◌++◌, map, flat_map, count_by, Option, Some, None, refl, sym, ap, ap₂, ◌∙◌, arith, zero-add, zero-le}
use Rattle.std.proofs.lemmas.Bool.{eqb-true, lt-ltb, le-leb}
use Rattle.std.proofs.lemmas.Bool.Decides.{nat_tests}
use Rattle.std.proofs.lemmas.List.Sums.{sum_by-cons, sum_by-append}
use Rattle.std.specs.List.{range_with_len}
use Rattle.region_cut.specs.declared.slot.Slot.{Slot}
use Rattle.region_cut.specs.Classes.{slots_of}
use Rattle.region_cut.specs.Slots.{same_slot, times}
use Rattle.pool_machine.specs.Slots.{has_index, ListsEachSlot, one_if}
use Rattle.pool_machine.specs.State.{State, slots_of_chunk, slots}
use Rattle.pool_machine.specs.Sound.{Sound}
use Rattle.pool_machine.specs.declared.chunk.DrawnChunk.{DrawnChunk}

pub count_cons : {A : Type 0} (p : A → Bool) (x : A) (xs : List A) → count_by p (x ∷ xs) ≡ cond (p x) 1 0 + count_by p xs
count_cons p x xs = sum_by-cons (λ y. cond (p y) 1 0) x xs

pub count_append : {A : Type 0} (p : A → Bool) (xs ys : List A) → count_by p (xs ++ ys) ≡ count_by p xs + count_by p ys
count_append p xs ys = sum_by-append (λ y. cond (p y) 1 0) xs ys

pub count_map : {A B : Type 0} (p : B → Bool) (f : A → B) (xs : List A) → count_by p (map f xs) ≡ count_by (λ x. p (f x)) xs
count_map p f [] = refl
count_map p f (x ∷ xs) =
    count_cons p (f x) (map f xs) ∙ (ap (λ n. cond (p (f x)) 1 0 + n) (count_map p f xs) ∙ sym (count_cons (λ y. p (f y)) x xs))

pub count_none : {A : Type 0} (p : A → Bool) (xs : List A) → ((x : A) → p x ≡ false) → count_by p xs ≡ 0
count_none p [] e = refl
count_none p (x ∷ xs) e = count_cons p x xs ∙ ap₂ (λ b n. cond b 1 0 + n) (e x) (count_none p xs e)

count_range : (n m a : ℕ) → count_by (λ i. n == i) (range_with_len a m) ≡ one_if (nat_le a n && nat_lt n (a + m))
count_range n zero a = grind (arith, nat_tests)
count_range n (suc m) a = count_cons (λ i. n == i) a (range_with_len (a + 1) m) ∙ (ap (λ k. cond (n == a) 1 0 + k) (count_range n m (a + 1)) ∙ step)
  where
    step : cond (n == a) 1 0 + one_if (nat_le (a + 1) n && nat_lt n (a + 1 + m)) ≡ one_if (nat_le a n && nat_lt n (a + suc m))
    step = grind (arith, nat_tests)

from_zero : (n : ℕ) → nat_le 0 n ≡ true
from_zero n = le-leb 0 n zero-le

-- the slots of one chunk
pub chunk_times : (s : Slot) (k : ℕ) (o : Option DrawnChunk) → times s (slots_of_chunk k o) ≡ one_if ((s.chunk == k) && has_index s.index o)
chunk_times s k None = none (s.chunk == k)
  where
    none : (b : Bool) → 0 ≡ one_if (b && false)
    none true = refl
    none false = refl
chunk_times s k (Some d) =
    count_map (same_slot s) (λ i. record { chunk = k; index = i }) (range_with_len 0 (slots_of d.class))
    ∙ go (s.chunk == k)
  where
    go : (b : Bool) → count_by (λ i. b && (s.index == i)) (range_with_len 0 (slots_of d.class)) ≡ one_if (b && nat_lt s.index (slots_of d.class))
    go true = count_range s.index (slots_of d.class) 0
        ∙ (ap (λ b. one_if (b && nat_lt s.index (0 + slots_of d.class))) (from_zero s.index)
        ∙ ap (λ n. one_if (nat_lt s.index n)) (zero-add (slots_of d.class)))
    go false = count_none (λ i. false) (range_with_len 0 (slots_of d.class)) (λ i. refl)

-- the slots of the chunks from a on
chunks_times : (drawn : ℕ → Option DrawnChunk) (s : Slot) (m a : ℕ) →
    times s (flat_map (λ k. slots_of_chunk k (drawn k)) (range_with_len a m))
    ≡ one_if ((nat_le a s.chunk && nat_lt s.chunk (a + m)) && has_index s.index (drawn s.chunk))
chunks_times drawn s zero a = none (has_index s.index (drawn s.chunk))
  where
    none : (h : Bool) → 0 ≡ one_if ((nat_le a s.chunk && nat_lt s.chunk (a + 0)) && h)
    none true = grind (arith, nat_tests)
    none false = grind (arith, nat_tests)
chunks_times drawn s (suc m) a =
    count_append (same_slot s) (slots_of_chunk a (drawn a)) (flat_map (λ k. slots_of_chunk k (drawn k)) (range_with_len (a + 1) m))
    ∙ (ap₂ ◌+◌ (here (s.chunk == a) refl) (chunks_times drawn s m (a + 1)) ∙ step (has_index s.index (drawn s.chunk)))
  where
    here : (b : Bool) → (s.chunk == a) ≡ b → times s (slots_of_chunk a (drawn a)) ≡ one_if ((s.chunk == a) && has_index s.index (drawn s.chunk))
    here true e = chunk_times s a (drawn a) ∙ ap (λ k. one_if ((s.chunk == a) && has_index s.index (drawn k))) (sym (eqb-true s.chunk a e))
    here false e = chunk_times s a (drawn a) ∙ (ap (λ b. one_if (b && has_index s.index (drawn a))) e
        ∙ ap (λ b. one_if (b && has_index s.index (drawn s.chunk))) (sym e))

    step : (h : Bool) → one_if ((s.chunk == a) && h) + one_if ((nat_le (a + 1) s.chunk && nat_lt s.chunk (a + 1 + m)) && h)
        ≡ one_if ((nat_le a s.chunk && nat_lt s.chunk (a + suc m)) && h)
    step true = grind (arith, nat_tests)
    step false = grind (arith, nat_tests)

-- the list of the slots of the drawn chunks has each of them once
pub slots_once : (st : State) (c : Slot → ℕ) → Sound st c → ListsEachSlot (slots st) st.drawn
slots_once st c h s = chunks_times st.drawn s st.chunks 0 ∙ low (st.drawn s.chunk) refl
  where
    low : (o : Option DrawnChunk) → st.drawn s.chunk ≡ o → one_if ((nat_le 0 s.chunk && nat_lt s.chunk (0 + st.chunks)) && has_index s.index o) ≡ one_if
        (has_index s.index o)
    low None e = none (nat_le 0 s.chunk && nat_lt s.chunk (0 + st.chunks))
      where
        none : (b : Bool) → one_if (b && false) ≡ 0
        none true = refl
        none false = refl
    low (Some d) e =
        ap₂ (λ a b. one_if ((a && b) && nat_lt s.index (slots_of d.class))) (from_zero s.chunk)
        (let l : s.chunk < st.chunks = (h.chunks_fit s.chunk d e).0 in lt-ltb s.chunk (0 + st.chunks) (omega arith))
