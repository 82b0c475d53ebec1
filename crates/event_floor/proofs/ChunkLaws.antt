-- The numbers and the names of the undrawn parts.
use Rattle.std.proofs.Common.{◌≡◌, ℕ, zero, suc, ◌+◌, ◌<◌, ◌≤◌, List, [], ◌∷◌, ◌++◌, length, map, reverse, drop, get_or, Some, refl, sym, ap, ap₂, ◌∙◌, arith, drop-cons, append_assoc}
use Rattle.std.specs.Borrow.{GName}
use Rattle.std.specs.List.{slice_get}
use Rattle.std.proofs.lemmas.Option.{slice_get-get_or}
use Rattle.std.proofs.lemmas.List.{reverse-append, map-append, length-map, length-reverse, length_push}
use Rattle.region_cut.specs.declared.part.Part.{Part}
use Rattle.region_cut.specs.Endings.{EndingsState}
use Rattle.region_cut.specs.Parts.{AreNumbered, number_of, name_of, bytes_of, numbers_from}
use Rattle.region_cut.proofs.Numbered.{numbered_length}
use Rattle.event_floor.specs.Chunks.{AreUndrawn, stacked, ended_part, ended_parts}

reverse_cons : {X : Type 0} (x : X) (xs : List X) → reverse (x ∷ xs) ≡ reverse xs ++ x ∷ []
reverse_cons x xs = reverse-append (x ∷ []) xs

map-reverse : {X Y : Type 0} (f : X → Y) (xs : List X) → map f (reverse xs) ≡ reverse (map f xs)
map-reverse f [] = refl
map-reverse f (x ∷ xs) =
    ap (map f) (reverse_cons x xs) ∙ (map-append f (reverse xs) (x ∷ []) ∙ (ap (λ z. z ++ f x ∷ []) (map-reverse f xs) ∙ sym (reverse_cons (f x) (map f xs))))

reverse-numbers_from : (k n : ℕ) → reverse (numbers_from k n) ≡ stacked k n
reverse-numbers_from k zero = refl
reverse-numbers_from k (suc n) = reverse_cons k (numbers_from (k + 1) n) ∙ ap (λ z. z ++ k ∷ []) (reverse-numbers_from (k + 1) n)

turned_stacked : (ps : List Part) → AreNumbered ps → map number_of (reverse ps) ≡ stacked 0 (length ps)
turned_stacked ps h =
    map-reverse number_of ps ∙ (ap reverse h.2 ∙ (reverse-numbers_from 0 h.0 ∙ ap (stacked 0) (sym (numbered_length ps h))))

reverse-reverse : {X : Type 0} (xs : List X) → reverse (reverse xs) ≡ xs
reverse-reverse [] = refl
reverse-reverse (x ∷ xs) = ap reverse (reverse_cons x xs) ∙ (reverse-append (reverse xs) (x ∷ []) ∙ ap (λ z. x ∷ z) (reverse-reverse xs))

-- the parts of a cut, turned
pub turned_bytes : (ps : List Part) → reverse (map bytes_of (reverse ps)) ≡ map bytes_of ps
turned_bytes ps = ap reverse (map-reverse bytes_of ps) ∙ reverse-reverse (map bytes_of ps)

pub last_bytes : (rest : List Part) (p : Part) → reverse (map bytes_of (rest ++ p ∷ [])) ≡ bytes_of p ∷ reverse (map bytes_of rest)
last_bytes rest p = ap reverse (map-append bytes_of rest (p ∷ [])) ∙ reverse-append (map bytes_of rest) (bytes_of p ∷ [])

pub none_drawn : (ps : List Part) → AreNumbered ps → AreUndrawn 0 (map name_of ps) (reverse ps)
none_drawn ps h = record {
  count = let e : length (map name_of ps) ≡ length (reverse ps) = length-map ps name_of ∙ sym (length-reverse ps) in omega (arith, e);
  numbers = turned_stacked ps h ∙ ap (stacked 0) (sym (length-reverse ps));
  names = map-reverse name_of ps;
}

last_split : {X : Type 0} (xs ys : List X) (x y : X) → xs ++ x ∷ [] ≡ ys ++ y ∷ [] → (xs ≡ ys) × (x ≡ y)
last_split [] [] x y e = (refl, cc)
last_split {X} [] (b ∷ ys) x y e =
    let t : [] ≡ ys ++ y ∷ [] = cc in let l : length {A = X} [] ≡ length (ys ++ y ∷ []) = ap length t in absurd (let m = length_push ys y in omega (arith, l, m))
last_split {X} (a ∷ xs) [] x y e =
    let t : xs ++ x ∷ [] ≡ [] = cc in let l : length (xs ++ x ∷ []) ≡ length {A = X} [] = ap length t in absurd (let m = length_push xs x in omega (arith, l, m))
last_split (a ∷ xs) (b ∷ ys) x y e =
    let t : xs ++ x ∷ [] ≡ ys ++ y ∷ [] = cc in
    let h : a ≡ b = cc in
    let r = last_split xs ys x y t in (rw (h, r.0) refl, r.1)

-- the part drawn is the next one, and the others stay in order
module _ (drawn : ℕ) (names : List GName) (rest : List Part) (p : Part) (h : AreUndrawn drawn names (rest ++ p ∷ [])) where
  more : length (rest ++ p ∷ []) ≡ suc (length rest)
  more = let l = length_push rest p in omega (arith, l)

  pub drawn_below : drawn < length names
  drawn_below = let n = h.count in let m = more in omega (arith, n, m)

  number : (map number_of rest ≡ stacked (drawn + 1) (length rest)) × (p.chunk ≡ drawn)
  number = last_split (map number_of rest) (stacked (drawn + 1) (length rest)) p.chunk drawn (sym (map-append number_of rest (p ∷ [])) ∙ (h.numbers ∙ ap (stacked drawn) more))

  name : (map name_of rest ≡ reverse (drop (suc drawn) names)) × (name_of p ≡ get_or names drawn (name_of p))
  name = last_split (map name_of rest) (reverse (drop (suc drawn) names)) (name_of p) (get_or names drawn (name_of p))
      (sym (map-append name_of rest (p ∷ [])) ∙ (h.names ∙ (ap reverse (drop-cons names drawn (name_of p) drawn_below) ∙ reverse_cons (get_or names drawn (name_of p)) (drop (suc drawn) names))))

  pub drawn_next : AreUndrawn (drawn + 1) names rest
  drawn_next = record {
    count = let n = h.count in let m = more in omega (arith, n, m);
    numbers = number.0;
    names = name.0 ∙ ap (λ n. reverse (drop n names)) (let e : suc drawn ≡ drawn + 1 = omega arith in e);
  }

  pub drawn_number : p.chunk ≡ drawn
  drawn_number = number.1

  pub drawn_name : slice_get names p.chunk ≡ Some (name_of p)
  drawn_name = ap (slice_get names) drawn_number ∙ (slice_get-get_or names drawn (name_of p) drawn_below ∙ ap (λ n. Some n) (sym name.1))

-- ---- parts that are let go

abbrev pub parts_let_go : List Part → EndingsState → EndingsState
parts_let_go ps s = record s { known = map ended_part ps ++ s.known }

pub part_ends : (rest : List Part) (p : Part) (s t : EndingsState) → t ≡ record s { known = ended_part p ∷ s.known } → parts_let_go rest t ≡ parts_let_go (rest ++ p ∷ []) s
part_ends rest p s t e =
    ap (parts_let_go rest) e
    ∙ ap (λ es. record s { known = es }) (sym (ap (λ es. es ++ s.known) (map-append ended_part rest (p ∷ [])) ∙ rw append_assoc refl))

zipped : (ps : List Part) → ended_parts (map name_of ps) (map bytes_of ps) ≡ map ended_part ps
zipped [] = refl
zipped (p ∷ ps) = ap (λ es. ended_part p ∷ es) (zipped ps)

pub parts_ended : (drawn : ℕ) (names : List GName) (undrawn : List Part) → AreUndrawn drawn names undrawn
    → ended_parts (drop drawn names) (reverse (map bytes_of undrawn)) ≡ map ended_part (reverse undrawn)
parts_ended drawn names undrawn h =
    ap₂ ended_parts (sym (map-reverse name_of undrawn ∙ (ap reverse h.names ∙ reverse-reverse (drop drawn names)))) (sym (map-reverse bytes_of undrawn)) ∙ zipped (reverse undrawn)
