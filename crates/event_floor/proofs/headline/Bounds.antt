-- How many slots there are, and so how many buffers a list has.
use Rattle.std.proofs.Common.{◌≡◌, ℕ, zero, suc, ◌+◌, ◌*◌, ◌≤◌, Bool, true, false, cond, List, [], ◌∷◌, filter, length, Option, Some, None, sym, subst, arith, length-append, zero-le}
use Rattle.std.proofs.Math.Nat.{div-le_self}
use Rattle.std.specs.List.{flat_map, range_with_len}
use Rattle.std.proofs.lemmas.List.FromFn.{length-map-range_with_len}
use Rattle.region_cut.specs.Classes.{size_of, slots_of}
use Rattle.slot_chain.specs.Counts.{capped}
use Rattle.pool_machine.specs.declared.chunk.DrawnChunk.{DrawnChunk}
use Rattle.pool_machine.specs.State.{State, slots, slots_of_chunk}

slots_few : (c : ℕ) → slots_of c ≤ 4096
slots_few c = div-le_self 4096 (size_of c)

chunk_few : (k : ℕ) (o : Option DrawnChunk) → length (slots_of_chunk k o) ≤ 4096
chunk_few k None = zero-le
chunk_few k (Some d) = subst (λ n. n ≤ 4096) (sym (length-map-range_with_len (λ i. record { chunk = k; index = i }) 0 (slots_of d.class))) (slots_few d.class)

rows_few : {X : Type 0} (f : ℕ → List X) (m a n : ℕ) → ((k : ℕ) → length (f k) ≤ m) → length (flat_map f (range_with_len a n)) ≤ n * m
rows_few f m a zero h = zero-le
rows_few f m a (suc n) h =
    let e = length-append (f a) (flat_map f (range_with_len (a + 1) n)) in
    let k = h a in
    let l = rows_few f m (a + 1) n h in
    grind (arith, e, k, l)

pub all_few : (st : State) → st.chunks ≤ 1024 → length (slots st) ≤ 4194304
all_few st l =
    let h = rows_few (λ k. slots_of_chunk k (st.drawn k)) 4096 0 st.chunks (λ k. chunk_few k (st.drawn k)) in
    omega (arith, l, h)

pub filter_few : {X : Type 0} (p : X → Bool) (xs : List X) → length (filter p xs) ≤ length xs
filter_few p [] = zero-le
filter_few p (x ∷ xs) = go (p x) (filter_few p xs)
  where
    go : (b : Bool) → length (filter p xs) ≤ length xs → length (cond b (x ∷ filter p xs) (filter p xs)) ≤ suc (length xs)
    go true l = omega (arith, l)
    go false l = omega (arith, l)

pub capped_is : (n : ℕ) → n ≤ 4194304 → capped n ≡ n
capped_is n l = omega (arith, l)
