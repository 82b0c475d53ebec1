-- Where the slices of a row lie, and those of a row in a row.
use Rattle.std.proofs.Common.{◌≡◌, ℕ, zero, suc, ◌+◌, ◌-◌, ◌*◌, ◌≤◌, List, [], ◌∷◌, ◌++◌, length, take, drop, Some, refl, sym, ap, subst, min, ◌∙◌, append_assoc, arith}
use Rattle.std.specs.List.{slice_get, flat_map, AllByRecursion}
use Rattle.std.proofs.Math.Seq.{take-append_seam, drop-append-add}
use Rattle.std.proofs.lemmas.List.{drop-take, drop-drop, length-take, length-drop, take-take}
use Rattle.std.proofs.lemmas.List.Elements.{recursion_from_All}
use Rattle.std.proofs.lemmas.Option.{slice_get_within, get_or_from_slice_get}
use Rattle.region_cut.specs.Limits.{chunk_size}
use Rattle.region_cut.specs.Classes.{size_of}
use Rattle.region_cut.specs.Bumps.{pieces_of}
use Rattle.region_cut.specs.Laws.{Ending, BeginsWith, StandsAt, SlicesLieInOrder, SlotsLieAtTheirRanges, SlicesAreGivenInOrder}
use Rattle.region_cut.specs.Ranges.{start_of}

lies : (end : Ending) (z : ℕ) (xs : List ℕ) (rest : List ℕ) (i x : ℕ) → AllByRecursion (λ y. length (end y) ≡ z) xs → slice_get xs i ≡ Some x
    → take z (drop (i * z) (flat_map end xs ++ rest)) ≡ end x
lies end z [] rest i x sizes at = cc
lies end z (y ∷ ys) rest zero x sizes at =
    let same : y ≡ x = cc in
    let none : 0 * z ≡ 0 = omega arith in
    ap (λ n. take z (drop n ((end y ++ flat_map end ys) ++ rest))) none
    ∙ ap (λ w. take z w) (append_assoc (end y) (flat_map end ys) rest)
    ∙ ap (λ n. take n (end y ++ (flat_map end ys ++ rest))) (sym sizes.0)
    ∙ take-append_seam (end y) (flat_map end ys ++ rest)
    ∙ ap end same
lies end z (y ∷ ys) rest (suc i) x sizes at =
    let size : length (end y) ≡ z = sizes.0 in
    let more : suc i * z ≡ length (end y) + i * z = omega (arith, size) in
    ap (λ n. take z (drop n ((end y ++ flat_map end ys) ++ rest))) more
    ∙ ap (λ w. take z (drop (length (end y) + i * z) w)) (append_assoc (end y) (flat_map end ys) rest)
    ∙ ap (λ w. take z w) (drop-append-add (end y) (flat_map end ys ++ rest) (i * z))
    ∙ lies end z ys rest i x sizes.1 at

size_at : (end : Ending) (xs : List ℕ) (z : ℕ) (bytes : List ℕ) → BeginsWith end xs z bytes → (i x : ℕ) → slice_get xs i ≡ Some x → length (end x) ≡ z
size_at end xs z bytes b i x at = subst (λ y. length (end y) ≡ z) (get_or_from_slice_get xs i x x at) (b.sizes i x (slice_get_within xs i x at))

pub slices_lie : SlicesLieInOrder
slices_lie end xs z bytes b i x at =
    ap (λ n. take n (drop (i * z) bytes)) (size_at end xs z bytes b i x at)
    ∙ ap (λ w. take z (drop (i * z) w)) b.joined
    ∙ lies end z xs b.rest i x (recursion_from_All (λ y. length (end y) ≡ z) xs b.sizes) at

take_within : (n m i : ℕ) (y : List ℕ) → n + i ≤ m → take n (drop i (take m y)) ≡ take n (drop i y)
take_within n m i y room =
    let split : m ≡ i + (n + (m - (i + n))) = omega arith in
    ap (λ l. take n (drop i (take l y))) split
    ∙ ap (λ z. take n z) (drop-take i (n + (m - (i + n))) y)
    ∙ take-take n (n + (m - (i + n))) (drop i y) (omega arith)

-- what stands in bytes that stand in others stands in these
within : (v u w : List ℕ) (i k : ℕ) → StandsAt v i u → StandsAt u k w → StandsAt v (k + i) w
within [] u w i k inner outer = refl
within (x ∷ v) u w i k inner outer =
    let n : ℕ = length (x ∷ v) in
    let long : n ≡ min n (length u - i) = ap length (sym inner) ∙ length-take n (drop i u) ∙ ap (λ l. min n l) (length-drop i u) in
    let some_long : n ≡ suc (length v) = refl in
    let room : n + i ≤ length u = omega (arith, long, some_long) in
    ap (λ z. take n z) (sym (drop-drop i k w))
    ∙ sym (take_within n (length u) i (drop k w) room)
    ∙ ap (λ z. take n (drop i z)) outer
    ∙ inner

pub ranges_lie : SlotsLieAtTheirRanges
ranges_lie end s c region chunks whole chunk chunk_at slots cut slot slot_at =
    let same : s.chunk * chunk_size + s.index * size_of c ≡ start_of s c = omega arith in
    subst (λ n. StandsAt (end slot) n region) same
    (within (end slot) (end chunk) region (s.index * size_of c) (s.chunk * chunk_size)
    (slices_lie end slots (size_of c) (end chunk) cut s.index slot slot_at)
    (slices_lie end chunks chunk_size region whole s.chunk chunk chunk_at))

last_of : (xs : List ℕ) (x : ℕ) → slice_get (xs ++ x ∷ []) (length xs) ≡ Some x
last_of [] x = refl
last_of (y ∷ ys) x = last_of ys x

pub given_in_order : SlicesAreGivenInOrder
given_in_order b b' p g =
    let index : p.slot.index ≡ length (pieces_of b) = g.slot_index ∙ sym b.counted in
    ap (λ xs. slice_get xs p.slot.index) g.joined_then
    ∙ ap (λ i. slice_get (pieces_of b ++ p.bytes.ghost_name ∷ []) i) index
    ∙ last_of (pieces_of b) p.bytes.ghost_name
