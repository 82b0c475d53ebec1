-- The homes of all classes.
use Rattle.std.specs.Prelude.{◌≡◌, ◌≢◌, ℕ, zero, suc, ◌∷◌, ◌++◌, ◌<◌, List, length, slice_index_or, All, Any, []}
use Rattle.region_cut.specs.Carved.{Carved}
use Rattle.region_cut.specs.Classes.{class_count}
use Rattle.pool_desk.specs.declared.error.DeskError.{DeskError}
use Rattle.pool_desk.specs.declared.error.DeskError.TheVariants.{NeedChunk, NoMemory}
use Rattle.pool_desk.specs.Homes.{AtHome, HomeState, IsAtHome, IsUnused, class_at}

-- what all homes of an owner show: their slots in any order, and all chunks that were ever claimed
pub record HomesState : Type 0 where
  pub owner : ℕ
  pub slots : List AtHome
  pub drawn : List Carved

abbrev pub slots_of_home : HomeState → List AtHome
slots_of_home h = h.slots

abbrev pub drawn_at : HomeState → List Carved
drawn_at h = h.drawn

abbrev pub no_home : HomeState
no_home = record { owner = 0; class = 0; slots = []; drawn = [] }

abbrev pub home_at : List HomeState → ℕ → HomeState
home_at hs k = slice_index_or hs k no_home

-- the homes of the classes below n, with no slot
unfoldable pub empties : ℕ → ℕ → List HomeState
empties owner zero = []
empties owner (suc n) = empties owner n ++ record { owner = owner; class = n; slots = []; drawn = [] } ∷ []

-- the home has slots of this owner and class alone, and its chunks were drawn for the class
pub record IsHome (owner class : ℕ) (h : HomeState) : Type 0 where
  pub owner_is : h.owner ≡ owner
  pub class_is : h.class ≡ class
  pub each : All (IsAtHome owner class) h.slots
  pub chunks : All (λ (c : Carved). c.class ≡ class) h.drawn

-- one home for each class, in order
pub record AreHomes (owner : ℕ) (hs : List HomeState) : Type 0 where
  pub count : length hs ≡ class_count
  pub each : (k : ℕ) → k < class_count → IsHome owner k (home_at hs k)

-- a slot of the class is there, and none is
abbrev pub HasClass : ℕ → List AtHome → Type 0
HasClass class slots = Any (λ (s : AtHome). class_at s ≡ class) slots

abbrev pub LacksClass : ℕ → List AtHome → Type 0
LacksClass class slots = All (λ (s : AtHome). class_at s ≢ class) slots

-- a chunk was drawn for the class, and none was
abbrev pub HasChunk : ℕ → List Carved → Type 0
HasChunk class drawn = Any (λ (c : Carved). c.class ≡ class) drawn

abbrev pub LacksChunk : ℕ → List Carved → Type 0
LacksChunk class drawn = All (λ (c : Carved). c.class ≢ class) drawn

-- why no slot of the class is given out: none is there, or memory was refused where those that are there were never
-- handed out
abbrev pub IsWanting : ℕ → List AtHome → DeskError → Type 0
IsWanting class slots (NeedChunk c) = (c ≡ class) × LacksClass class slots
IsWanting class slots NoMemory = HasClass class slots × All (λ (s : AtHome). class_at s ≡ class → IsUnused s) slots
IsWanting class slots e = ⊥
