-- What slices are known to end as.
use Rattle.std.specs.Prelude.{ℕ, ◌≡◌, ◌==◌, cond, List, [], ◌∷◌, ◌++◌, map}
use Rattle.std.specs.List.{All, Contains, flat_map}
use Rattle.std.specs.Borrow.{Fml, GName, ftrue, fsep}
use Rattle.region_cut.specs.Carved.{Carved}
use Rattle.region_cut.specs.Fronts.{whole_of, lent_of, rest_of}
use Rattle.region_cut.specs.Joins.{ends}
use Rattle.region_cut.specs.declared.endings.front.Front.{Front}

-- the slice of this name ends as these bytes
pub record Ended : Type 0 where
  pub name : GName
  pub bytes : List ℕ

abbrev pub name_at : Ended → GName
name_at e = e.name

-- it is known what the slice of the name ends as
abbrev pub IsKnown : List Ended → GName → Type 0
IsKnown all x = Contains (map name_at all) x

-- what the slice of the name ends as, where that is known
abbrev pub end_in : List Ended → GName → List ℕ
end_in [] x = []
end_in (e ∷ es) x = cond (e.name == x) e.bytes (end_in es x)

-- No slice ends in two ways.
abbrev pub Agrees : List Ended → Type 0
Agrees all = All (λ (e : Ended). end_in all e.name ≡ e.bytes) all

-- a chunk ends as the slots that were taken of it, in order, and then what is left of it
abbrev pub ended_chunk : List Ended → Carved → Ended
ended_chunk all c = record { name = c.whole; bytes = flat_map (end_in all) c.taken ++ c.rest }

-- and so does a slice of which parts are lent
abbrev pub ended_front : List Ended → Front → Ended
ended_front all f = record { name = whole_of f; bytes = flat_map (end_in all) (lent_of f) ++ rest_of f }

-- what is known, and the chunks of which it is known what they end as once their slots are
pub record EndingsState : Type 0 where
  pub known : List Ended
  pub chunks : List Carved

-- for each slot that was taken of the chunk it is known what it ends as
abbrev pub HasKnownSlots : List Ended → Carved → Type 0
HasKnownSlots all c = All (IsKnown all) c.taken

-- each of these slices ends so
unfoldable pub all_end_so : List Ended → Fml
all_end_so [] = ftrue
all_end_so (e ∷ es) = fsep (ends e.name e.bytes) (all_end_so es)
