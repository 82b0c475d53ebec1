-- What an allocator answers.
use Rattle.std.specs.Prelude.{◌≡◌, ◌⊎◌, ℕ, [], ◌∷◌, ◌++◌, All, Result, Ok, Err}
use Rattle.region_cut.specs.Classes.{IsLeastFor, NoClassFor}
use Rattle.slot_chain.specs.Buffer.{Buffer}
use Rattle.digit_route.specs.Profiles.{profile_of}
use Rattle.pool_desk.specs.Homes.{AtHome, class_at, IsUnused}
use Rattle.pool_desk.specs.HomesState.{HasChunk, HasClass, LacksChunk, LacksClass}
use Rattle.pool_fabric.specs.Names.{Names}
use Rattle.pool_fabric.specs.Stations.{StationState}
use Rattle.pool_jobs.specs.declared.error.PoolError.{PoolError}
use Rattle.pool_jobs.specs.declared.error.PoolError.TheVariants.{TooLarge, UsedUp, NoMemory, NoChunk}

-- another state of the same desk's station, still of the fabric
pub record SameDesk (names : Names) (old new : StationState) : Type 0 where
  pub number : new.desk.number ≡ old.desk.number
  pub digits : new.desk.digits ≡ names.digits

-- no buffer was lent out or freed
pub record Keeps (names : Names) (old new : StationState) : Type 0 where
  pub desk : SameDesk names old new
  pub lent : new.lent ≡ old.lent
  pub freed : new.freed ≡ old.freed

-- this buffer of the desk's own was lent out, of which nothing is filled, and none was freed
pub record LendsOut (names : Names) (old : StationState) (b : Buffer) (new : StationState) : Type 0 where
  pub desk : SameDesk names old new
  pub owner : b.owner ≡ old.desk.number
  pub empty : b.filled ≡ 0
  pub lent : new.lent ≡ old.lent ++ b ∷ []
  pub freed : new.freed ≡ old.freed

-- the least class of the pool that holds n bytes
abbrev pub IsClassFor : Names → ℕ → ℕ → Type 0
IsClassFor names n c = IsLeastFor (profile_of names.digits.bits) n c

-- only slots of the class are at home that were never handed out
abbrev pub HasOnlyUnused : ℕ → StationState → Type 0
HasOnlyUnused c s =
    HasClass c s.desk.home × All (λ (a : AtHome). class_at a ≡ c → IsUnused a) s.desk.home

-- no slot of the class is at home, but a chunk was drawn for it, whose slots may come home
abbrev pub HasAllOut : ℕ → StationState → Type 0
HasAllOut c s = LacksClass c s.desk.home × HasChunk c s.desk.drawn

-- no slot of the class is at home, and no chunk was ever drawn for it
abbrev pub HasNone : ℕ → StationState → Type 0
HasNone c s = LacksClass c s.desk.home × LacksChunk c s.desk.drawn

-- no slot of the class is at home, or each one there wants memory
abbrev pub HasNoMore : ℕ → StationState → Type 0
HasNoMore c s = LacksClass c s.desk.home ⊎ HasOnlyUnused c s

-- why no buffer of this class is lent: no slot of it is at home, with a chunk or without, or each slot there wants memory
abbrev pub RefusesClass : ℕ → PoolError → StationState → Type 0
RefusesClass c TooLarge s = ⊥
RefusesClass c UsedUp s = HasAllOut c s
RefusesClass c NoMemory s = HasOnlyUnused c s
RefusesClass c NoChunk s = HasNone c s

-- a buffer of this class is lent out, or none is
abbrev pub ServesClass : Names → StationState → ℕ → Result Buffer PoolError → StationState → Type 0
ServesClass names old c (Ok b) new = (b.class ≡ c) × LendsOut names old b new
ServesClass names old c (Err e) new = RefusesClass c e new × Keeps names old new

-- A buffer of the right class is lent out.
-- Or none is: no class holds n bytes, or one is refused of the class that does.
abbrev pub Serves : Names → StationState → ℕ → Result Buffer PoolError → StationState → Type 0
Serves names old n (Ok b) new = IsClassFor names n b.class × LendsOut names old b new
Serves names old n (Err TooLarge) new = NoClassFor (profile_of names.digits.bits) n × Keeps names old new
Serves names old n (Err UsedUp) new = ((c : ℕ) × IsClassFor names n c × HasAllOut c new) × Keeps names old new
Serves names old n (Err NoMemory) new = ((c : ℕ) × IsClassFor names n c × HasOnlyUnused c new) × Keeps names old new
Serves names old n (Err NoChunk) new = ((c : ℕ) × IsClassFor names n c × HasNone c new) × Keeps names old new
