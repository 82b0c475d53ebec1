-- What the end of a pool keeps of its stations, and what its audit says.
use Rattle.std.specs.Prelude.{◌≡◌, ℕ, List, [], ◌∷◌, ◌++◌, Option, map, IsPermutation}
use Rattle.region_cut.specs.Carved.{Carved}
use Rattle.region_cut.specs.declared.slot.Slot.{Slot}
use Rattle.slot_chain.specs.Buffer.{Buffer}
use Rattle.pool_desk.specs.Slots.{slots_in}
use Rattle.slot_audit.specs.Audit.{FindsEachSlot}
use Rattle.seated_desk.specs.Claims.{AreNoted}
use Rattle.seated_desk.specs.declared.station.Station.{Station}

-- what stays of a station: its number, the chunks that it claimed, and the buffers that were lent and freed there
abbrev pub desk_of : Station → ℕ × List Carved × List Buffer × List Buffer
desk_of s = (s.desk.number, s.desk.drawn, s.lent, s.freed)

-- the stations are the same but for where their slots are
abbrev pub AreSettled : List Station → List Station → Type 0
AreSettled old new = map desk_of new ≡ map desk_of old

-- the slots that one station has, and those of all of them
abbrev pub station_slots : Station → List Slot
station_slots s = slots_in s.desk.home s.desk.cached

abbrev pub listed : List Station → List Slot
listed [] = []
listed (s ∷ more) = station_slots s ++ listed more

-- the chunks that the stations claimed
abbrev pub claimed : List Station → List Carved
claimed [] = []
claimed (s ∷ more) = s.desk.drawn ++ claimed more

-- the stations have each slot of each chunk that is noted once, and no other
pub record AreWhole (drawn : List (Option ℕ)) (stations : List Station) : Type 0 where
  pub found : List Slot
  pub each : IsPermutation (listed stations) found
  pub once : FindsEachSlot drawn found

-- the audit found nothing wrong: these stations, once settled, have each slot of each chunk that they claimed, once,
-- and no other
pub record IsAudited (stations : List Station) : Type 0 where
  pub settled : List Station
  pub drawn : List (Option ℕ)
  pub same : AreSettled stations settled
  pub noted : AreNoted drawn (claimed stations)
  pub whole : AreWhole drawn settled
