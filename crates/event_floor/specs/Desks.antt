-- The desks of a floor.
use Rattle.std.specs.Prelude.{ℕ, zero, suc, ◌≡◌, ◌≢◌, ◌<◌, Bool, true, false, List, [], ◌∷◌, ◌++◌}
use Rattle.slot_chain.specs.Buffer.{Buffer}
use Rattle.digit_route.specs.Digits.{Scheme}
use Rattle.pool_desk.specs.Homes.{AtHome, slot_at}
use Rattle.pool_desk.specs.Desks.{IdleState, DeskState}
use Rattle.event_floor.specs.Lent.{chunk_places}

-- a desk that no worker holds, or one that a worker holds
pub data AnyDeskState : Type 0 where
  Idle : (desk : IdleState) → AnyDeskState
  Held : (desk : DeskState) → AnyDeskState

-- a desk with nothing at home
abbrev pub new_desk : Scheme → ℕ → ℕ → IdleState
new_desk digits limit number = record { number = number; digits = digits; limit = limit; home = []; drawn = [] }

-- n desks that no worker holds, with nothing at home
unfoldable pub new_desks : Scheme → ℕ → ℕ → List AnyDeskState
new_desks digits limit zero = []
new_desks digits limit (suc n) = new_desks digits limit n ++ Idle (new_desk digits limit n) ∷ []

-- the desk in the hands of a worker, with nothing in its cache
abbrev pub adopted : ℕ → IdleState → DeskState
adopted worker d = record {
  number = d.number;
  digits = d.digits;
  limit = d.limit;
  worker = worker;
  home = d.home;
  drawn = d.drawn;
  cached = [];
}

-- the desk without its worker
abbrev pub retired : DeskState → IdleState
retired d = record { number = d.number; digits = d.digits; limit = d.limit; home = d.home; drawn = d.drawn }

-- what is seen of a desk: all of it where a worker holds it, else neither a worker nor a cache
abbrev pub seen_as : Bool → DeskState → AnyDeskState
seen_as true d = Held d
seen_as false d = Idle (retired d)

-- a worker holds the desk
abbrev pub IsInHands : AnyDeskState → Type 0
IsInHands (Idle d) = ⊥
IsInHands (Held d) = Unit {0}

-- a worker holds the desk, and this is so of it
abbrev pub HeldWith : (DeskState → Type 0) → AnyDeskState → Type 0
HeldWith says (Idle d) = ⊥
HeldWith says (Held d) = says d

-- a worker holds the desk, and did this to it
abbrev pub Works : (DeskState → DeskState → Type 0) → AnyDeskState → AnyDeskState → Type 0
Works does (Held old) (Held new) = does old new
Works does old new = ⊥

abbrev pub in_hands_of : ℕ → AnyDeskState → AnyDeskState
in_hands_of worker (Idle d) = Held (adopted worker d)
in_hands_of worker (Held d) = Held d

abbrev pub home_of : AnyDeskState → List AtHome
home_of (Idle d) = d.home
home_of (Held d) = d.home

-- the desk has this number and limit, and reads the numbers of desks so
abbrev pub IsNumbered : Scheme → ℕ → ℕ → AnyDeskState → Type 0
IsNumbered digits limit number (Idle d) = (d.number ≡ number) × (d.limit ≡ limit) × (d.digits ≡ digits)
IsNumbered digits limit number (Held d) = (d.number ≡ number) × (d.limit ≡ limit) × (d.digits ≡ digits)

-- the slot has a place in a table for so many chunks
abbrev pub HasPlace : ℕ → AtHome → Type 0
HasPlace chunks s = ((slot_at s).chunk < chunks) × ((slot_at s).index < chunk_places)

-- the others' buffers that were freed here
abbrev pub cached_of : AnyDeskState → List Buffer
cached_of (Idle d) = []
cached_of (Held d) = d.cached

-- the desk was let go by its worker, where nothing is in its cache; else it stays as it was
abbrev pub Releases : AnyDeskState → Bool → AnyDeskState → Type 0
Releases (Idle d) true new = ⊥
Releases (Idle d) false new = new ≡ Idle d
Releases (Held d) true new = (d.cached ≡ []) × (new ≡ Idle (retired d))
Releases (Held d) false new = (d.cached ≢ []) × (new ≡ Held d)
