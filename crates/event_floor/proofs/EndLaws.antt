-- Buffers that are let go, from the end of a list.
use Rattle.std.proofs.Common.{◌≡◌, List, [], ◌∷◌, ◌++◌, map, flat_map, refl, sym, ap, ◌∙◌, subst, append_assoc, IsPermutation}
use Rattle.std.proofs.lemmas.List.{map-append}
use Rattle.std.proofs.lemmas.Grind.{flat_map-append}
use Rattle.std.proofs.lemmas.List.Sorted.{IsPermutation-trans, IsPermutation-append_right}
use Rattle.region_cut.specs.Endings.{Ended, EndingsState}
use Rattle.slot_chain.specs.Buffer.{Buffer, ended_of}

append_none : {X : Type 0} (xs : List X) → xs ++ [] ≡ xs
append_none [] = refl
append_none (x ∷ xs) = ap (λ l. x ∷ l) (append_none xs)

pub last_joined : {X Y : Type 0} (f : X → List Y) (rest : List X) (x : X) (ys : List Y) → flat_map f (rest ++ x ∷ []) ++ ys ≡ flat_map f rest ++ (f x ++ ys)
last_joined f rest x ys =
    ap (λ zs. zs ++ ys) (flat_map-append f rest (x ∷ []) ∙ ap (λ zs. flat_map f rest ++ zs) (append_none (f x))) ∙ rw append_assoc refl

module _ {X : Type 0} (f : X → List Buffer) where
  -- those of the last of these, and those before it
  apart : (rest : List X) (x : X) (es : List Ended) → map ended_of (flat_map f (rest ++ x ∷ [])) ++ es ≡ map ended_of (flat_map f rest) ++ (map ended_of (f x) ++ es)
  apart rest x es =
      ap (λ bs. map ended_of bs ++ es) (flat_map-append f rest (x ∷ []) ∙ ap (λ bs. flat_map f rest ++ bs) (append_none (f x)))
      ∙ (ap (λ l. l ++ es) (map-append ended_of (flat_map f rest) (f x)) ∙ rw append_assoc refl)

  abbrev pub let_go : List X → EndingsState → EndingsState
  let_go xs s = record s { known = map ended_of (flat_map f xs) ++ s.known }

  pub last_ends : (rest : List X) (x : X) (s t : EndingsState) → t ≡ record s { known = map ended_of (f x) ++ s.known } → let_go rest t ≡ let_go (rest ++ x ∷ []) s
  last_ends rest x s t e = ap (let_go rest) e ∙ ap (λ es. record s { known = es }) (sym (apart rest x s.known))

  pub last_ends_somehow : (all rest : List X) (x : X) (first old new : List Ended) → IsPermutation first (map ended_of (flat_map f all) ++ old) → all ≡ rest ++ x ∷ []
      → IsPermutation (map ended_of (f x) ++ old) new → IsPermutation first (map ended_of (flat_map f rest) ++ new)
  last_ends_somehow all rest x first old new p e q =
      IsPermutation-trans _ _ _ (subst (IsPermutation first) (ap (λ xs. map ended_of (flat_map f xs) ++ old) e ∙ apart rest x old) p)
      (IsPermutation-append_right (map ended_of (flat_map f rest)) _ _ q)

-- three lists of buffers and what was known before, one after the other
pub three_joined : (xs bs cs : List Buffer) (es : List Ended) → map ended_of xs ++ (map ended_of bs ++ (map ended_of cs ++ es)) ≡ map ended_of (xs ++ (bs ++ cs)) ++ es
three_joined xs bs cs es =
    let A : List Ended = map ended_of xs in let B : List Ended = map ended_of bs in let C : List Ended = map ended_of cs in
    sym (ap (λ l. l ++ es) (map-append ended_of xs (bs ++ cs) ∙ ap (λ l. A ++ l) (map-append ended_of bs cs))
    ∙ (append_assoc A (B ++ C) es ∙ ap (λ l. A ++ l) (append_assoc B C es)))
