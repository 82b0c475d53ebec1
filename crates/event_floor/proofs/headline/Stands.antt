-- Where bytes stand in a region.
use Rattle.std.proofs.Common.{◌≡◌, ℕ, zero, suc, ◌+◌, ◌*◌, ◌<◌, List, [], ◌∷◌, ◌++◌, length, take, drop, get_or, flat_map, All, refl, sym, ap, ap₂, ◌∙◌, subst, arith}
use Rattle.std.specs.Borrow.{GName}
use Rattle.std.proofs.Math.Nat.{suc-mul}
use Rattle.std.proofs.lemmas.List.{drop-drop}
use Rattle.std.proofs.lemmas.List.Elements.{All-nil, All-cons, All-head, All-tail}
use Rattle.region_cut.specs.Limits.{chunk_size}
use Rattle.region_cut.specs.Classes.{size_of}
use Rattle.region_cut.specs.Laws.{StandsAt}
use Rattle.pool_desk.specs.Homes.{AtHome, unused_from}
use Rattle.pool_desk.specs.Homes.AtHome.{Fresh}

-- the bytes begin so
abbrev Begins : List ℕ → List ℕ → Type 0
Begins xs z = take (length xs) z ≡ xs

begins_drop : (n : ℕ) (xs z : List ℕ) → Begins xs z → Begins (drop n xs) (drop n z)
begins_drop zero xs z h = h
begins_drop (suc n) [] z h = refl
begins_drop (suc n) (x ∷ xs) [] h = cc
begins_drop (suc n) (x ∷ xs) (y ∷ z) h = begins_drop n xs z (let e : y ∷ take (length xs) z ≡ x ∷ xs = h in cc)

begins_take : (n : ℕ) (xs z : List ℕ) → Begins xs z → Begins (take n xs) z
begins_take zero xs z h = refl
begins_take (suc n) [] z h = refl
begins_take (suc n) (x ∷ xs) [] h = cc
begins_take (suc n) (x ∷ xs) (y ∷ z) h =
    let e : y ∷ take (length xs) z ≡ x ∷ xs = h in
    let head : y ≡ x = cc in
    let tail : take (length xs) z ≡ xs = cc in
    ap₂ ◌∷◌ head (begins_take n xs z tail)

begins_join : (xs ys z : List ℕ) → Begins xs z → Begins ys (drop (length xs) z) → Begins (xs ++ ys) z
begins_join [] ys z g h = h
begins_join (x ∷ xs) ys [] g h = cc
begins_join (x ∷ xs) ys (y ∷ z) g h =
    let e : y ∷ take (length xs) z ≡ x ∷ xs = g in
    let head : y ≡ x = cc in
    let tail : take (length xs) z ≡ xs = cc in
    ap₂ ◌∷◌ head (begins_join xs ys z tail h)

drop_front : (xs ys : List ℕ) → drop (length xs) (xs ++ ys) ≡ ys
drop_front [] ys = refl
drop_front (x ∷ xs) ys = drop_front xs ys

take_front : (xs ys : List ℕ) → take (length xs) (xs ++ ys) ≡ xs
take_front [] ys = refl
take_front (x ∷ xs) ys = ap (λ zs. x ∷ zs) (take_front xs ys)

-- ---- places

pub stands_take : (n p : ℕ) (xs w : List ℕ) → StandsAt xs p w → StandsAt (take n xs) p w
stands_take n p xs w h = begins_take n xs (drop p w) h

pub stands_drop : (n p : ℕ) (xs w : List ℕ) → StandsAt xs p w → StandsAt (drop n xs) (p + n) w
stands_drop n p xs w h = subst (λ z. Begins (drop n xs) z) (drop-drop n p w) (begins_drop n xs (drop p w) h)

-- what stands there joined stands there in turn, and the other way round
pub stands_first : (xs ys : List ℕ) (p : ℕ) (w : List ℕ) → StandsAt (xs ++ ys) p w → StandsAt xs p w
stands_first xs ys p w h = subst (λ zs. StandsAt zs p w) (take_front xs ys) (stands_take (length xs) p (xs ++ ys) w h)

pub stands_second : (xs ys : List ℕ) (p : ℕ) (w : List ℕ) → StandsAt (xs ++ ys) p w → StandsAt ys (p + length xs) w
stands_second xs ys p w h = subst (λ zs. StandsAt zs (p + length xs) w) (drop_front xs ys) (stands_drop (length xs) p (xs ++ ys) w h)

pub stands_join : (xs ys : List ℕ) (p : ℕ) (w : List ℕ) → StandsAt xs p w → StandsAt ys (p + length xs) w → StandsAt (xs ++ ys) p w
stands_join xs ys p w g h = begins_join xs ys (drop p w) g (subst (λ z. Begins ys z) (sym (drop-drop (length xs) p w)) h)

-- bytes with others behind them
pub stands_there : (xs ys : List ℕ) → StandsAt xs 0 (xs ++ ys)
stands_there xs ys = take_front xs ys

pub stands_whole : (xs : List ℕ) → StandsAt xs 0 xs
stands_whole [] = refl
stands_whole (x ∷ xs) = ap (λ zs. x ∷ zs) (stands_whole xs)

-- behind other bytes
pub stands_behind : (ys xs : List ℕ) (p : ℕ) (w : List ℕ) → StandsAt xs (length ys + p) (ys ++ w) → StandsAt xs p w
stands_behind ys xs p w h = subst (λ z. Begins xs z) (sym (drop-drop p (length ys) (ys ++ w)) ∙ ap (drop p) (drop_front ys w)) h

pub stands_in_front : (ys xs : List ℕ) (p : ℕ) (w : List ℕ) → StandsAt xs p w → StandsAt xs (length ys + p) (ys ++ w)
stands_in_front ys xs p w h = subst (λ z. Begins xs z) (sym (sym (drop-drop p (length ys) (ys ++ w)) ∙ ap (drop p) (drop_front ys w))) h

-- in what stands there itself
begins_trans : (xs m z : List ℕ) → Begins xs m → Begins m z → Begins xs z
begins_trans [] m z g h = refl
begins_trans (x ∷ xs) [] z g h = cc
begins_trans (x ∷ xs) (y ∷ m) [] g h = cc
begins_trans (x ∷ xs) (y ∷ m) (w ∷ z) g h =
    let e : y ∷ take (length xs) m ≡ x ∷ xs = g in
    let f : w ∷ take (length m) z ≡ y ∷ m = h in
    let first : take (length xs) m ≡ xs = cc in
    let rest : take (length m) z ≡ m = cc in
    let head : w ≡ x = cc in
    ap₂ ◌∷◌ head (begins_trans xs m z first rest)

pub stands_within : (p q : ℕ) (xs ys w : List ℕ) → StandsAt xs p ys → StandsAt ys q w → StandsAt xs (q + p) w
stands_within p q xs ys w g h = begins_trans xs (drop p ys) (drop (q + p) w) g (stands_drop p q ys w h)

-- the slots of a chunk that stands there
module _ (P : AtHome → Type 0) (chunk class : ℕ) (w : List ℕ)
    (is : (i : ℕ) (part : GName) (bs : List ℕ) → StandsAt bs (chunk_size * chunk + i * size_of class) w
    → P (Fresh (record { slot = record { chunk = chunk; index = i }; class = class; part = part; bytes = bs }))) where
  pub unused_stand : (part : GName) (n i : ℕ) (bs : List ℕ) → StandsAt bs (chunk_size * chunk + i * size_of class) w → All P (unused_from chunk class part n i bs)
  unused_stand part zero i bs h = All-nil P
  unused_stand part (suc n) i bs h =
      let next : (chunk_size * chunk + i * size_of class) + size_of class ≡ chunk_size * chunk + (i + 1) * size_of class = (let e = suc-mul i (size_of class) in omega (arith, e)) in
      All-cons P _ _ (is i part (take (size_of class) bs) (stands_take (size_of class) _ bs w h))
      (unused_stand part n (i + 1) (drop (size_of class) bs) (subst (λ p. StandsAt (drop (size_of class) bs) p w) next (stands_drop (size_of class) _ bs w h)))

-- pieces of one length stand one after the other
pub flat_stand : {X : Type 0} (f : X → List ℕ) (z p : ℕ) (w : List ℕ) (xs : List X) → All (λ x. length (f x) ≡ z) xs
    → ((i : ℕ) (d : X) → i < length xs → StandsAt (f (get_or xs i d)) (p + i * z) w) → StandsAt (flat_map f xs) p w
flat_stand f z p w [] h s = refl
flat_stand f z p w (x ∷ xs) h s =
    let first : p + 0 * z ≡ p = omega arith in
    let size : length (f x) ≡ z = All-head (λ y. length (f y) ≡ z) x xs h in
    stands_join (f x) (flat_map f xs) p w (subst (λ n. StandsAt (f x) n w) first (s zero x (omega arith)))
    (flat_stand f z (p + length (f x)) w xs (All-tail (λ y. length (f y) ≡ z) x xs h)
    (λ i d l. subst (λ n. StandsAt (f (get_or xs i d)) n w) (let m = suc-mul i z in omega (arith, m, size)) (s (suc i) d (omega arith))))
