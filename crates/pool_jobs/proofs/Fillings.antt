-- What the buffers of a list are filled with.
use Rattle.std.proofs.Common.{◌≡◌, ℕ, zero, suc, List, [], ◌∷◌, ◌++◌, length, map, set, ap, sym, refl, ◌∙◌}
use Rattle.std.specs.Prelude.{◌↔◌, Some, Result, Ok, Err, MatchResult, slice_get, option_map}
use Rattle.std.proofs.lemmas.List.{map-append, map-set, length-map}
use Rattle.std.proofs.lemmas.Option.{slice_get-map}
use Rattle.slot_chain.specs.Buffer.{Buffer}
use Rattle.slot_chain.specs.Filling.{Extends, data_of}
use Rattle.slot_chain.specs.declared.error.Full.{Full}
use Rattle.region_cut.specs.Carved.{Carved}
use Rattle.pool_desk.specs.Homes.{AtHome, GivenAs, GivesOne}
use Rattle.pool_desk.specs.Homes.AtHome.{Kept, Fresh}
use Rattle.pool_jobs.specs.Bursts.{AppendsAt}

-- one for each buffer
pub fillings_length : (bs : List Buffer) → length (map data_of bs) ≡ length bs
fillings_length bs = length-map bs data_of

pub fillings_none : (bs : List Buffer) → (map data_of bs ≡ []) ↔ (bs ≡ [])
fillings_none [] = (λ e. refl, λ e. refl)
fillings_none (b ∷ bs) = (λ e. absurd (cc), λ e. absurd (cc))

pub fillings_append : (bs : List Buffer) (b : Buffer) → map data_of (bs ++ b ∷ []) ≡ map data_of bs ++ data_of b ∷ []
fillings_append bs b = map-append data_of bs (b ∷ [])

pub fillings_set : (bs : List Buffer) (i : ℕ) (b : Buffer) → map data_of (set bs i b) ≡ set (map data_of bs) i (data_of b)
fillings_set bs i b = map-set data_of bs i b

-- a buffer that is put where it is changes nothing
put_back : (bs : List Buffer) (i : ℕ) (b : Buffer) → slice_get bs i ≡ Some b → set bs i b ≡ bs
put_back [] i b at = refl
put_back (x ∷ xs) zero b at = let is : x ≡ b = cc in ap (λ z. z ∷ xs) (sym is)
put_back (x ∷ xs) (suc i) b at = ap (λ r. x ∷ r) (put_back xs i b at)

-- what comes behind what a buffer is filled with comes behind the filling at its place
pub fillings_extend : (bs : List Buffer) (i : ℕ) (more : List ℕ) (r : Result (Unit {0}) Full) (b b' : Buffer)
    → slice_get bs i ≡ Some b → Extends b more r b' → MatchResult r
    (λ _. AppendsAt i more (map data_of bs) (map data_of (set bs i b')))
    (λ _. map data_of (set bs i b') ≡ map data_of bs)
fillings_extend bs i more (Ok _) b b' at e = (
  data_of b,
  slice_get-map data_of bs i ∙ ap (λ o. option_map data_of o) at,
  fillings_set bs i b' ∙ ap (λ xs. set (map data_of bs) i xs) e.appended,
)
fillings_extend bs i more (Err _) b b' at e =
    ap (λ x. map data_of (set bs i x)) e.1 ∙ ap (λ xs. map data_of xs) (put_back bs i b at)

-- of a buffer that is given out, nothing is filled
given_empty : (a : AtHome) (b : Buffer) → GivenAs a b → b.filled ≡ 0
given_empty (Kept a) b h = ap (λ (x : Buffer). x.filled) h
given_empty (Fresh u) b h = h.3

pub lent_empty : (owner class : ℕ) (old new : List AtHome) (b : Buffer) (drawn drawn' : List Carved)
    → GivesOne owner class old b new drawn drawn' → b.filled ≡ 0
lent_empty owner class old new b drawn drawn' h = given_empty h.from b h.gives
