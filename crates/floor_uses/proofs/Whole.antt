-- A region of which all parts are let go ends as it began.
use Rattle.std.proofs.Common.{◌≡◌, ℕ, ◌*◌, List, [], ◌∷◌, ◌++◌, flat_map, length, map, drop, All, refl, sym, ap, ◌∙◌, subst, arith}
use Rattle.std.specs.Borrow.{GName}
use Rattle.std.specs.List.{Contains}
use Rattle.std.proofs.Math.Nat.{suc-mul}
use Rattle.std.proofs.lemmas.List.{length-append, take-append-drop}
use Rattle.std.proofs.lemmas.List.Elements.{All-nil, All-cons, All-head, All-tail, All-map, All-weaker, All-contains_itself}
use Rattle.std.proofs.Math.Seq.{take-append_seam}
use Rattle.region_cut.specs.Limits.{chunk_size}
use Rattle.region_cut.specs.declared.endings.front.Front.{Front}
use Rattle.region_cut.specs.declared.part.Part.{Part}
use Rattle.region_cut.specs.Endings.{Ended, IsKnown, Agrees, name_at, end_in, ended_front}
use Rattle.region_cut.specs.Laws.{StandsAt}
use Rattle.region_cut.specs.Fronts.{whole_of, lent_of, rest_of}
use Rattle.region_cut.specs.Parts.{name_of, bytes_of}
use Rattle.event_floor.specs.Chunks.{ended_part}

pub length_flat : {X Y : Type 0} (f : X → List Y) (z : ℕ) (xs : List X) → All (λ x. length (f x) ≡ z) xs → length (flat_map f xs) ≡ length xs * z
length_flat f z [] h = omega arith
length_flat f z (x ∷ xs) h =
    let one = All-head (λ y. length (f y) ≡ z) x xs h in
    let more = length_flat f z xs (All-tail (λ y. length (f y) ≡ z) x xs h) in
    let both = length-append (f x) (flat_map f xs) in
    omega (arith, one, more, both, suc-mul (length xs) z)

-- parts that stand at the beginning of the region, each a whole chunk, and then the tail
pub whole_ends : (f : Front) (known : List Ended) (names : List GName) (region : List ℕ) (ρ : GName) → lent_of f ≡ names → whole_of f ≡ ρ
    → rest_of f ≡ drop (chunk_size * length names) region → All (λ x. length (end_in known x) ≡ chunk_size) names → StandsAt (flat_map (end_in known) names) 0 region
    → ended_front known f ≡ record { name = ρ; bytes = region }
whole_ends f known names region ρ lent whole rest sizes stands =
    let joined = flat_map (end_in known) names in
    let long : chunk_size * length names ≡ length joined = (let l = length_flat (end_in known) chunk_size names sizes in omega (arith, l)) in
    let all : joined ++ drop (chunk_size * length names) region ≡ region =
    ap (λ n. joined ++ drop n region) long ∙ (ap (λ bs. bs ++ drop (length joined) region) (sym stands) ∙ take-append-drop (length joined) region) in
    ap (λ (ns : List GName). record { name = f.tie.whole; bytes = flat_map (end_in known) ns ++ f.rest.now }) lent
    ∙ (ap (λ (n : GName). record { name = n; bytes = joined ++ f.rest.now }) whole
    ∙ (ap (λ (w : List ℕ). record { name = ρ; bytes = joined ++ w }) rest
    ∙ ap (λ (w : List ℕ). record { name = ρ; bytes = w }) all))

pub here : (ks es : List Ended) (e : Ended) → ks ≡ e ∷ es → Contains ks e
here ks es e is = subst (λ (z : List Ended). Contains z e) (sym is) (0, omega arith, refl)

-- of each part that was let go as it was, it is known what it ends as
names_noted : (ps : List Part) → map name_at (map ended_part ps) ≡ map name_of ps
names_noted [] = refl
names_noted (p ∷ ps) = ap (λ (xs : List GName). name_of p ∷ xs) (names_noted ps)

pub parts_known : (ps : List Part) → All (IsKnown (map ended_part ps)) (map name_of ps)
parts_known ps = subst (λ (xs : List GName). All (λ x. Contains xs x) (map name_of ps)) (sym (names_noted ps)) (All-contains_itself (map name_of ps))

abbrev EndSo : List Ended → Part → Type 0
EndSo known p = end_in known (name_of p) ≡ bytes_of p

ended_each : (known : List Ended) (ps : List Part) → All (λ (e : Ended). end_in known e.name ≡ e.bytes) (map ended_part ps) → All (EndSo known) ps
ended_each known [] h = All-nil (EndSo known)
ended_each known (p ∷ ps) h =
    let P : Ended → Type 0 = λ e. end_in known e.name ≡ e.bytes in
    All-cons (EndSo known) p ps (All-head P (ended_part p) (map ended_part ps) h) (ended_each known ps (All-tail P (ended_part p) (map ended_part ps) h))

end_so : (ps : List Part) → Agrees (map ended_part ps) → All (EndSo (map ended_part ps)) ps
end_so ps one = ended_each (map ended_part ps) ps one

joined_as : (known : List Ended) (ps : List Part) → All (EndSo known) ps → flat_map (end_in known) (map name_of ps) ≡ flat_map bytes_of ps
joined_as known [] h = refl
joined_as known (p ∷ ps) h =
    ap (λ (bs : List ℕ). bs ++ flat_map (end_in known) (map name_of ps)) (All-head (EndSo known) p ps h)
    ∙ ap (λ (bs : List ℕ). bytes_of p ++ bs) (joined_as known ps (All-tail (EndSo known) p ps h))

pub parts_whole : (ps : List Part) → Agrees (map ended_part ps) → All (λ x. length (end_in (map ended_part ps) x) ≡ chunk_size) (map name_of ps)
parts_whole ps one =
    All-map (λ x. length (end_in (map ended_part ps) x) ≡ chunk_size) name_of ps
    (All-weaker (EndSo (map ended_part ps)) (λ p. length (end_in (map ended_part ps) (name_of p)) ≡ chunk_size) (λ p h. ap length h ∙ p.is_whole) ps (end_so ps one))

-- and joined they end as they were
pub parts_stand : (ps : List Part) (tail : List ℕ) → Agrees (map ended_part ps)
    → StandsAt (flat_map (end_in (map ended_part ps)) (map name_of ps)) 0 (flat_map bytes_of ps ++ tail)
parts_stand ps tail one =
    subst (λ (w : List ℕ). StandsAt w 0 (flat_map bytes_of ps ++ tail)) (sym (joined_as (map ended_part ps) ps (end_so ps one)))
    (take-append_seam (flat_map bytes_of ps) tail)
