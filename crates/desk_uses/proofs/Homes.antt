-- What is at home after a slot was given out and its buffer came back.
use Rattle.std.proofs.Common.{◌≡◌, ◌∷◌, ◌<◌, List, length, refl, arith, ◌∙◌, IsPermutation}
use Rattle.std.specs.Prelude.{Any}
use Rattle.std.proofs.lemmas.List.Sorted.{length_permutation, Contains-permutation}
use Rattle.slot_chain.specs.Buffer.{Buffer}
use Rattle.pool_desk.specs.declared.freed.Freed.{Freed}
use Rattle.pool_desk.specs.declared.freed.Freed.TheVariants.{Home, Cached, Due}
use Rattle.pool_desk.specs.Desks.{DeskState}
use Rattle.pool_desk.specs.Homes.{AtHome}
use Rattle.pool_desk.specs.Homes.AtHome.{Kept}
use Rattle.pool_desk.specs.Steps.{Frees, freed}

-- an own buffer can only go home
pub comes_home : (d : DeskState) (b : Buffer) (f : Freed) (new : DeskState) → b.owner ≡ d.number → Frees d b f new
    → IsPermutation (Kept (freed b) ∷ d.home) new.home
comes_home d b Home new own h = h.2
comes_home d b Cached new own h = absurd (h.0.0 own)
comes_home d b Due new own h = absurd (h.0.0 own)

-- as many slots as before
pub as_many : (old mid new : List AtHome) (a b : AtHome) → IsPermutation old (a ∷ mid) → IsPermutation (b ∷ mid) new → length new ≡ length old
as_many old mid new a b out back = length_permutation (b ∷ mid) new back ∙ length_permutation old (a ∷ mid) out

-- the one that came back is there
pub came_back : (P : AtHome → Type 0) (mid new : List AtHome) (b : AtHome) → P b → IsPermutation (b ∷ mid) new → Any P new
came_back P mid new b holds back =
    let some : 0 < length (b ∷ mid) = omega arith in
    let c = Contains-permutation (b ∷ mid) new b back (0, some, refl) in (c.0, b, c.1, c.2, holds)
