-- Parcels, none of them empty.
use Rattle.std.proofs.Common.{◌≡◌, ◌≢◌, ◌∙◌, List, [], ◌∷◌, ◌++◌, length, Option, Some, None, refl, sym, ap, append-nil, append_assoc, arith, IsPermutation}
use Rattle.std.specs.Prelude.{ℕ, ◌≤◌, Contains, MatchOption}
use Rattle.std.proofs.lemmas.Grind.{flat_map-append}
use Rattle.std.proofs.lemmas.List.Elements.{All-weaker, All-contains, All-contains_itself, Contains-append_left, Contains-push}
use Rattle.std.proofs.lemmas.List.Sorted.{IsPermutation-append_comm, IsPermutation-append_right}
use Rattle.slot_chain.specs.Buffer.{Buffer}
use Rattle.slot_chain.specs.Parcels.{ParcelState}
use Rattle.slot_chain.specs.Magazines.{AreFilled, packed_in}
use Rattle.slot_chain.proofs.Tops.{front_is_none}

-- where there is no parcel there is no buffer, and the other way round
pub packs_none : (xs : List ParcelState) → length xs ≡ 0 → packed_in xs ≡ []
packs_none [] e = refl
packs_none (a ∷ xs) e = absurd (omega (arith, e))

pub none_packed : (xs : List ParcelState) → AreFilled xs → packed_in xs ≡ [] → length xs ≡ 0
none_packed [] h e = refl
none_packed (a ∷ xs) h e = absurd (h 0 a (omega arith) (front_is_none a.items (packed_in xs) e))

-- a parcel at the end has the last buffers
pub last_packed : (xs ys : List ParcelState) (a : ParcelState) → xs ≡ ys ++ a ∷ [] → packed_in xs ≡ packed_in ys ++ a.items
last_packed xs ys a e =
    ap packed_in e ∙ (flat_map-append (λ (x : ParcelState). x.items) ys (a ∷ []) ∙ ap (λ l. packed_in ys ++ l) (append-nil a.items))

pub before_filled : (xs ys : List ParcelState) (a : ParcelState) → xs ≡ ys ++ a ∷ [] → AreFilled xs → AreFilled ys
before_filled xs ys a e h =
    let all : AreFilled (ys ++ a ∷ []) = rw e at h in
    All-weaker (Contains ys) (λ (x : ParcelState). x.items ≢ []) (λ x c. All-contains (λ (v : ParcelState). v.items ≢ []) (ys ++ a ∷ []) x all (Contains-append_left ys (a ∷ []) x c)) ys (All-contains_itself ys)

pub last_filled : (xs ys : List ParcelState) (a : ParcelState) → xs ≡ ys ++ a ∷ [] → AreFilled xs → a.items ≢ []
last_filled xs ys a e h =
    let all : AreFilled (ys ++ a ∷ []) = rw e at h in
    All-contains (λ (v : ParcelState). v.items ≢ []) (ys ++ a ∷ []) a all (Contains-push ys a)

-- the last parcel is taken out, where there is one
pub taken_last : (old new : List ParcelState) (o : Option ParcelState) → MatchOption o ((old ≡ []) × (new ≡ [])) (λ a. old ≡ new ++ a ∷ []) → AreFilled old → MatchOption o ((packed_in old ≡ []) × (packed_in new ≡ [])) (λ a. (packed_in old ≡ packed_in new ++ a.items) × (a.items ≢ []))
taken_last old new None h f = (ap packed_in h.0, ap packed_in h.1)
taken_last old new (Some a) h f = (last_packed old new a h, last_filled old new a h f)

-- the last parcel is taken out, where it fits
pub taken_fitting : (old new : List ParcelState) (o : Option ParcelState) (most places : ℕ)
    → MatchOption o (new ≡ old) (λ a. (old ≡ new ++ a ∷ []) × (length a.items ≤ most) × (a.places ≡ places)) → AreFilled old
    → MatchOption o (packed_in new ≡ packed_in old)
    (λ a. (packed_in old ≡ packed_in new ++ a.items) × (a.items ≢ []) × (length a.items ≤ most) × (a.places ≡ places))
taken_fitting old new None most places h f = ap packed_in h
taken_fitting old new (Some a) most places h f = (last_packed old new a h.0, last_filled old new a h.0 f, h.1, h.2)

-- the last buffer of the last parcel
pub walked : (whole rest : List ParcelState) (a : ParcelState) (named : List Buffer) (b : Buffer) → whole ≡ rest ++ a ∷ [] → a.items ≡ named ++ b ∷ [] → packed_in whole ≡ (packed_in rest ++ named) ++ b ∷ []
walked whole rest a named b e f =
    last_packed whole rest a e ∙ (ap (λ l. packed_in rest ++ l) f ∙ sym (append_assoc (packed_in rest) named (b ∷ [])))

-- a parcel more comes before what is named behind
pub appended : (whole more named : List Buffer) (new : List Buffer) → new ≡ whole ++ more → IsPermutation ((whole ++ named) ++ more) (new ++ named)
appended whole more named new e =
    rw (e, append_assoc, append_assoc) (IsPermutation-append_right whole (named ++ more) (more ++ named) (IsPermutation-append_comm named more))
