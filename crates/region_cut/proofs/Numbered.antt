-- The parts of a cut, by their numbers, counted and joined.
use Rattle.std.proofs.Common.{◌≡◌, ℕ, zero, suc, ◌+◌, ◌*◌, ◌/◌, ◌≤◌, subst, List, ◌++◌, length, take, drop, Some, refl, sym, ap, ◌∙◌, append_assoc, arith}
use Rattle.std.specs.List.{slice_get, flat_map}
use Rattle.std.specs.Option.{option_map}
use Rattle.std.proofs.lemmas.List.{drop-drop, take-append-drop, length-map}
use Rattle.std.proofs.lemmas.List.Folds.{flat_map-map}
use Rattle.std.proofs.lemmas.Option.{slice_get-map}
use Rattle.region_cut.specs.Limits.{chunk_size, chunk_limit}
use Rattle.region_cut.specs.Laws.{PartsLieInOrder, PartsMakeTheWhole}
use Rattle.region_cut.specs.Parts.{AreNumbered, chunks, numbers_from, bytes_of, number_of}
use Rattle.region_cut.specs.declared.part.Part.{Part}

pub length-numbers_from : (k n : ℕ) → length (numbers_from k n) ≡ n
length-numbers_from k zero = refl
length-numbers_from k (suc n) = ap (λ m. suc m) (length-numbers_from (k + 1) n)

pub numbered_length : (ps : List Part) (h : AreNumbered ps) → length ps ≡ h.0
numbered_length ps h = sym (length-map ps number_of) ∙ (ap (λ ns. length ns) h.2 ∙ length-numbers_from 0 h.0)

-- there are no more parts than a region has chunks
pub numbered_few : (ps : List Part) → AreNumbered ps → length ps ≤ chunk_limit
numbered_few ps h = subst (λ (m : ℕ). m ≤ chunk_limit) (sym (numbered_length ps h)) h.1

number_at : (k n i x : ℕ) → slice_get (numbers_from k n) i ≡ Some x → x ≡ k + i
number_at k zero i x at = cc
number_at k (suc n) zero x at = let same : k ≡ x = cc in omega (arith, same)
number_at k (suc n) (suc i) x at = let more : x ≡ k + 1 + i = number_at (k + 1) n i x at in omega (arith, more)

chunk_at : (n : ℕ) (bs : List ℕ) (i : ℕ) (v : List ℕ) → slice_get (chunks n bs) i ≡ Some v → v ≡ take chunk_size (drop (chunk_size * i) bs)
chunk_at zero bs i v at = cc
chunk_at (suc n) bs zero v at = let same : take chunk_size bs ≡ v = cc in sym same
chunk_at (suc n) bs (suc i) v at =
    let more : chunk_size + chunk_size * i ≡ chunk_size * suc i = omega arith in
    chunk_at n (drop chunk_size bs) i v at ∙ ap (λ z. take chunk_size z) (drop-drop (chunk_size * i) chunk_size bs) ∙ ap (λ m. take chunk_size (drop m bs)) more

chunks_join : (n : ℕ) (bs : List ℕ) → flat_map (λ v. v) (chunks n bs) ++ drop (chunk_size * n) bs ≡ bs
chunks_join zero bs = refl
chunks_join (suc n) bs =
    let more : chunk_size * suc n ≡ chunk_size + chunk_size * n = omega arith in
    append_assoc (take chunk_size bs) (flat_map (λ v. v) (chunks n (drop chunk_size bs))) (drop (chunk_size * suc n) bs)
    ∙ ap (λ z. take chunk_size bs ++ (flat_map (λ v. v) (chunks n (drop chunk_size bs)) ++ z)) (ap (λ m. drop m bs) more ∙ sym (drop-drop (chunk_size * n) chunk_size bs))
    ∙ ap (λ z. take chunk_size bs ++ z) (chunks_join n (drop chunk_size bs))
    ∙ take-append-drop chunk_size bs

length-chunks : (n : ℕ) (bs : List ℕ) → length (chunks n bs) ≡ n
length-chunks zero bs = refl
length-chunks (suc n) bs = ap (λ m. suc m) (length-chunks n (drop chunk_size bs))

pub parts_make : PartsMakeTheWhole
parts_make bytes parts cut =
    let n : ℕ = length bytes / chunk_size in
    let count : length parts ≡ n = sym (length-map parts bytes_of) ∙ ap (λ z. length z) cut.bytes ∙ length-chunks n bytes in (
      count,
      ap (λ z. z ++ drop (chunk_size * length parts) bytes) (sym (flat_map-map (λ v. v) bytes_of parts) ∙ ap (λ z. flat_map (λ v. v) z) cut.bytes)
          ∙ ap (λ m. flat_map (λ v. v) (chunks n bytes) ++ drop (chunk_size * m) bytes) count
          ∙ chunks_join n bytes,
    )

pub parts_lie : PartsLieInOrder
parts_lie bytes parts cut i p at =
    let n : ℕ = length bytes / chunk_size in
    let number : slice_get (numbers_from 0 n) i ≡ Some p.chunk =
    ap (λ xs. slice_get xs i) (sym cut.numbers) ∙ slice_get-map number_of parts i ∙ ap (λ o. option_map number_of o) at in
    let held : slice_get (chunks n bytes) i ≡ Some p.bytes.now =
    ap (λ xs. slice_get xs i) (sym cut.bytes) ∙ slice_get-map bytes_of parts i ∙ ap (λ o. option_map bytes_of o) at in
    let same : p.bytes.now ≡ take chunk_size (drop (chunk_size * i) bytes) = chunk_at n bytes i p.bytes.now held in (
      let e : p.chunk ≡ 0 + i = number_at 0 n i p.chunk number in omega (arith, e),
      ap (λ m. take m (drop (chunk_size * i) bytes)) p.is_whole ∙ sym same,
    )
