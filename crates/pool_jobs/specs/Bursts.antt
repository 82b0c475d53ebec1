-- What the filling of a parcel, and of its buffers, does.
use Rattle.std.specs.Prelude.{◌≡◌, ◌≢◌, ℕ, ◌-◌, ◌≤◌, ◌⊎◌, List, ◌++◌, All, Result, Ok, Err, Some, length, map}
use Rattle.std.specs.Prelude.{slice_get, slice_set}
use Rattle.slot_chain.specs.Buffer.{Buffer}
use Rattle.slot_chain.specs.Parcels.{ParcelState, unforwarded}
use Rattle.pool_fabric.specs.Names.{Names}
use Rattle.pool_fabric.specs.Stations.{StationState}
use Rattle.pool_jobs.specs.Serving.{HasNoMore, HasOnlyUnused, IsClassFor, SameDesk, Serves}
use Rattle.pool_jobs.specs.declared.error.PoolError.{PoolError}

-- These buffers of the desk's own were lent out, one after the other: each of the least class that holds n bytes, and
-- nothing of it is filled. None was freed.
pub record LendsEach (names : Names) (n : ℕ) (old : StationState) (bs : List Buffer) (new : StationState) : Type 0 where
  pub desk : SameDesk names old new
  pub class : All (λ (b : Buffer). IsClassFor names n b.class) bs
  pub owner : All (λ (b : Buffer). b.owner ≡ old.desk.number) bs
  pub empty : All (λ (b : Buffer). b.filled ≡ 0) bs
  pub lent : new.lent ≡ old.lent ++ bs
  pub freed : new.freed ≡ old.freed

-- the parcel with these buffers at its end, none of which was passed on
abbrev pub packed : ParcelState → List Buffer → ParcelState
packed p bs = record p { items = p.items ++ map unforwarded bs }

-- k buffers, and no more than count, were lent into the parcel
pub record LendsInto (names : Names) (n count : ℕ) (old : StationState) (p : ParcelState) (k : ℕ) (new : StationState)
    (p' : ParcelState) : Type 0 where
  pub buffers : List Buffer
  pub lends : LendsEach names n old buffers new
  pub number : length buffers ≡ k
  pub most : k ≤ count
  pub into : p' ≡ packed p buffers

-- why no buffer comes into a parcel: none is asked for, it is another allocator's, or it has no place
abbrev pub TakesNone : ℕ → ℕ → ParcelState → Type 0
TakesNone count number p = (count ≡ 0) ⊎ (p.owner ≢ number) ⊎ (p.places ≤ length p.items)

-- A class holds n bytes, and buffers of it were lent into the parcel, until it took no more; or at least one was, and
-- then the class had no more. Or none was, for the reasons that one buffer is refused for.
abbrev pub Fills : Names → StationState → ℕ → ℕ → ParcelState → Result ℕ PoolError → StationState → ParcelState → Type 0
Fills names old n count p (Ok k) new p' =
    ((c : ℕ) × IsClassFor names n c) × LendsInto names n count old p k new p'
    × (TakesNone (count - k) old.desk.number p' ⊎ ((k ≢ 0) × ((c : ℕ) × IsClassFor names n c × HasNoMore c new)))
Fills names old n count p (Err e) new p' = Serves names old n (Err e) new × (p' ≡ p)

-- It ended for no want of slots: the parcel takes no more than these k, or each slot of the class at home wants memory.
abbrev pub WantsNoSlot : Names → StationState → ℕ → ℕ → ℕ → StationState → ParcelState → Type 0
WantsNoSlot names old n count k new p' =
    TakesNone (count - k) old.desk.number p' ⊎ ((c : ℕ) × IsClassFor names n c × HasOnlyUnused c new)

-- k buffers of at least n bytes were lent, and came home
pub record Reserves (names : Names) (old : StationState) (n k : ℕ) (new : StationState) : Type 0 where
  pub desk : SameDesk names old new
  pub buffers : List Buffer
  pub number : length buffers ≡ k
  pub class : All (λ (b : Buffer). IsClassFor names n b.class) buffers
  pub lent : new.lent ≡ old.lent ++ buffers
  pub freed : new.freed ≡ old.freed ++ map unforwarded buffers

-- these bytes come behind what the buffer at place i is filled with, and the others are as before
abbrev pub AppendsAt : ℕ → List ℕ → List (List ℕ) → List (List ℕ) → Type 0
AppendsAt i bs old new = (filling : List ℕ) × (slice_get old i ≡ Some filling) × (new ≡ slice_set old i (filling ++ bs))
