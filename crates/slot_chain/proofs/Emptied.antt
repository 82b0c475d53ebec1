-- Buffers of which nothing is filled any more.
use Rattle.std.proofs.Common.{◌≡◌, ℕ, suc, ◌+◌, ◌-◌, ◌<◌, List, [], ◌∷◌, ◌++◌, append-nil, get_or, set, refl, true, false, sym, ap, subst, ◌∙◌, arith, All, map, take, drop, length}
use Rattle.std.specs.Prelude.{Bool, MatchBool}
use Rattle.std.proofs.lemmas.List.{drop_all, get_or-append_right, get_or-drop, length-map, length-take-le, map-append, take-append-drop, take_all}
use Rattle.std.proofs.lemmas.List.Edits.{map_over_more}
use Rattle.std.proofs.lemmas.List.Elements.{All-cons, All-more, All-nil, All-map, All-weaker}
use Rattle.std.proofs.lemmas.List.Sums.{sum_by-cons}
use Rattle.slot_chain.specs.Buffer.{Buffer}
use Rattle.slot_chain.specs.Counts.{sizes, buffer_size}
use Rattle.slot_chain.specs.Filling.{emptied}
use Rattle.slot_chain.specs.Parcels.{IsOf, IsPacked}

emptied_twice : (bs : List Buffer) → map emptied (map emptied bs) ≡ map emptied bs
emptied_twice [] = refl
emptied_twice (b ∷ bs) = ap (λ l. emptied b ∷ l) (emptied_twice bs)

-- those in front were emptied
pub emptied_front : (n : ℕ) (xs ys : List Buffer) → ys ≡ map emptied (take n xs) ++ drop n xs → map emptied ys ≡ map emptied xs
emptied_front n xs ys e =
    let front = take n xs in let back = drop n xs in
    ap (map emptied) e ∙ (map-append emptied (map emptied front) back ∙ (ap (λ l. l ++ map emptied back) (emptied_twice front)
    ∙ (sym (map-append emptied front back) ∙ ap (map emptied) (take-append-drop n xs))))

-- a buffer behind those that were emptied is as before
behind : (xs ys : List Buffer) (i : ℕ) (x : Buffer) → i < length xs → ys ≡ map emptied (take i xs) ++ drop i xs → x ≡ get_or ys i x → x ≡ get_or xs i x
behind xs ys i x lt h is =
    let front = map emptied (take i xs) in
    let long : length front ≡ i = length-map (take i xs) emptied ∙ length-take-le i xs (omega arith) in
    is ∙ (ap (λ l. get_or l i x) h ∙ (get_or-append_right front (drop i xs) i i x long (omega arith)
    ∙ (get_or-drop i xs (i - i) x ∙ ap (λ k. get_or xs k x) (omega arith))))

-- one more is emptied
pub emptied_more : (class i : ℕ) (xs ys : List Buffer) (x y : Buffer) → i < length xs
    → (ys ≡ map emptied (take i xs) ++ drop i xs) × All (IsOf class) (take i xs) → x ≡ get_or ys i x → IsOf class x → y ≡ emptied x
    → (set ys i y ≡ map emptied (take (i + 1) xs) ++ drop (i + 1) xs) × All (IsOf class) (take (i + 1) xs)
emptied_more class i xs ys x y lt h is alike e = (
  rw e (map_over_more emptied xs ys i x lt h.0 is),
  All-more (IsOf class) xs i x lt h.1 (subst (IsOf class) (behind xs ys i x lt h.0 is) alike),
)

-- what holds of a buffer whatever is filled
pub all_alike : (P : Buffer → Type 0) → ((b : Buffer) → P b → P (emptied b)) → ((b : Buffer) → P (emptied b) → P b)
    → (old new : List Buffer) → map emptied new ≡ map emptied old → All P old → All P new
all_alike P down up old new same h =
    back new (rw same (All-map P emptied old (All-weaker P (λ y. P (emptied y)) down old h)))
  where
    back : (bs : List Buffer) → All P (map emptied bs) → All P bs
    back [] g = All-nil P
    back (b ∷ bs) g = All-cons P b bs (up b (g 0 b (omega arith))) (back bs (λ k d l. g (suc k) d (omega (arith, l))))

pub packed_alike : (owner : ℕ) (old new : List Buffer) → map emptied new ≡ map emptied old → All (IsPacked owner) old → All (IsPacked owner) new
packed_alike owner old new same h = all_alike (IsPacked owner) (λ b p. (p.0, p.1)) (λ b p. (p.0, p.1)) old new same h

sizes_emptied : (bs : List Buffer) → sizes (map emptied bs) ≡ sizes bs
sizes_emptied [] = refl
sizes_emptied (b ∷ bs) =
    sum_by-cons buffer_size (emptied b) (map emptied bs) ∙ (ap (λ n. buffer_size b + n) (sizes_emptied bs) ∙ sym (sum_by-cons buffer_size b bs))

pub sizes_alike : (old new : List Buffer) → map emptied new ≡ map emptied old → sizes new ≡ sizes old
sizes_alike old new same = sym (sizes_emptied new) ∙ (ap sizes same ∙ sizes_emptied old)

-- emptied twice is emptied once
pub emptied_all : (old new : List Buffer) → new ≡ map emptied old → map emptied new ≡ map emptied old
emptied_all old new e = ap (map emptied) e ∙ emptied_twice old

-- a list that was written back whole, over one of the same length
pub written_back : (old new : List Buffer) (n : ℕ) → n ≡ length old → map emptied new ≡ map emptied old → take n (new ++ drop (length new) old) ≡ new
written_back old new n is same =
    let long : length new ≡ length old = sym (length-map new emptied) ∙ (ap length same ∙ length-map old emptied) in
    ap (λ l. take n (new ++ l)) (drop_all (length new) old (omega (arith, long))) ∙ (ap (take n) (append-nil new) ∙ take_all n new (omega (arith, long, is)))

-- whatever is answered, no more than what is filled has changed
pub alike_so : (class : ℕ) (old new : List Buffer) (all : Bool)
    → MatchBool all (All (IsOf class) old × (new ≡ map emptied old)) (map emptied new ≡ map emptied old) → map emptied new ≡ map emptied old
alike_so class old new true h = emptied_all old new h.1
alike_so class old new false h = h
