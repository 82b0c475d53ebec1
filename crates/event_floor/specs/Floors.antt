-- What a contract sees of a floor.
use Rattle.std.specs.Prelude.{ℕ, ◌≡◌, ◌<◌, ◌≤◌, ◌+◌, ◌*◌, ◌^◌, List, [], Option, None, IfSome, map, length, replicate}
use Rattle.std.specs.Prelude.{slice_index_or, slice_set, All}
use Rattle.std.specs.Borrow.{GName}
use Rattle.region_cut.specs.Parts.{name_of, bytes_of}
use Rattle.region_cut.specs.declared.part.Part.{Part}
use Rattle.region_cut.specs.declared.profile.Profile.{Profile}
use Rattle.slot_chain.specs.Buffer.{Buffer, owner_limit}
use Rattle.digit_route.specs.Digits.{Scheme}
use Rattle.digit_route.specs.Profiles.{profile_of}
use Rattle.pool_desk.specs.Desks.{IdleState, DeskState}
use Rattle.pool_machine.specs.declared.chunk.DrawnChunk.{DrawnChunk}
use Rattle.event_floor.specs.Desks.AnyDeskState.{Idle, Held}
use Rattle.event_floor.specs.Desks.{AnyDeskState, new_desks, new_desk, home_of, cached_of, IsNumbered, HasPlace}
use Rattle.event_floor.specs.Lent.{chunk_places}
use Rattle.event_floor.specs.Inboxes.{QueuedState, inbox_at}

-- how the numbers of desks are read, the limit in bytes of each desk's cache, how many chunks there are, the names of
-- their parts, the chunks that are drawn, and the bytes of the parts of the others, all in the order of their numbers,
-- the desks, the table of the lent buffers, the inbox of each desk, and the number of the next batch
pub record FloorState : Type 0 where
  pub digits : Scheme
  pub limit : ℕ
  pub chunks : ℕ
  pub parts : List GName
  pub drawn : List DrawnChunk
  pub undrawn : List (List ℕ)
  pub desks : List AnyDeskState
  pub lent : List (Option Buffer)
  pub inboxes : List (List QueuedState)
  pub next : ℕ

-- how many desks it has
abbrev pub desk_count : FloorState → ℕ
desk_count v = length v.desks

-- which classes it uses
abbrev pub profile_seen : FloorState → Profile
profile_seen v = profile_of v.digits.bits

-- numbers of no bit, and a desk that stands for none
abbrev pub no_digits : Scheme
no_digits = record { width = 0; bits = 0 }

abbrev pub no_desk : AnyDeskState
no_desk = Idle (new_desk no_digits 0 0)

-- the desk of a number
abbrev pub desk_at : FloorState → ℕ → AnyDeskState
desk_at v a = slice_index_or v.desks a no_desk

-- the desk a is idle; it is held, and is d
abbrev pub IsIdle : FloorState → ℕ → IdleState → Type 0
IsIdle v a d = (a < desk_count v) × (desk_at v a ≡ Idle d)

abbrev pub IsHeld : FloorState → ℕ → DeskState → Type 0
IsHeld v a d = (a < desk_count v) × (desk_at v a ≡ Held d)

-- the same floor with another desk a, in any hands or in those of a worker
abbrev pub with_any_desk : FloorState → ℕ → AnyDeskState → FloorState
with_any_desk v a s = record v { desks = slice_set v.desks a s }

abbrev pub with_desk : FloorState → ℕ → DeskState → FloorState
with_desk v a d = with_any_desk v a (Held d)

-- the same floor with another inbox of desk b
abbrev pub with_inbox : FloorState → ℕ → List QueuedState → FloorState
with_inbox v b queued = record v { inboxes = slice_set v.inboxes b queued }

-- a floor over these parts, with nothing drawn and nothing lent, all desks idle, no batch numbered
abbrev pub opening : ℕ → List Part → Scheme → ℕ → FloorState
opening desks parts digits limit = record {
  digits = digits;
  limit = limit;
  chunks = length parts;
  parts = map name_of parts;
  drawn = [];
  undrawn = map bytes_of parts;
  desks = new_desks digits limit desks;
  lent = replicate (chunk_places * length parts) None;
  inboxes = replicate desks [];
  next = 1;
}

-- each lent buffer goes home to one of so many desks
abbrev pub AreOwned : ℕ → List (Option Buffer) → Type 0
AreOwned desks lent = (i : ℕ) → IfSome (slice_index_or lent i None) (λ (b : Buffer). b.owner < desks)

-- the buffer goes home to one of so many desks, and its slot has a place in a table for so many chunks
pub record FitsFloor (desks chunks : ℕ) (b : Buffer) : Type 0 where
  pub owner : b.owner < desks
  pub chunk : b.slot.chunk < chunks
  pub index : b.slot.index < chunk_places

-- desk a of so many: it has its number, and the floor's digits and limit; its slots at home and the buffers in its
-- cache are known
pub record IsDeskOf (digits : Scheme) (limit desks chunks a : ℕ) (s : AnyDeskState) : Type 0 where
  pub numbered : IsNumbered digits limit a s
  pub placed : All (HasPlace chunks) (home_of s)
  pub known : All (FitsFloor desks chunks) (cached_of s)

-- a batch in the inbox of b: it was numbered before, it is addressed to b, it has the floor's digits, and its buffers
-- are known
pub record IsQueuedAt (digits : Scheme) (desks chunks next b : ℕ) (p : QueuedState) : Type 0 where
  pub numbered : p.batch.number < next
  pub address : p.batch.address ≡ b
  pub sender : p.batch.sender < desks
  pub digits_are : p.digits ≡ digits
  pub known : All (FitsFloor desks chunks) p.buffers

-- the greatest number that a batch can have
abbrev pub last_number : ℕ
last_number = 4294967295

-- A floor of n desks, each with its inbox. There are no more desks than numbers, and the table has the places of
-- each chunk.
pub record IsFloorOf (n : ℕ) (digits : Scheme) (limit chunks : ℕ) (desks : List AnyDeskState)
    (lent : List (Option Buffer)) (inboxes : List (List QueuedState)) (next : ℕ)
    : Type 0 where
  pub count : length desks ≡ n
  pub few : n ≤ 2 ^ digits.bits
  pub fewer : n ≤ owner_limit
  pub table : length lent ≡ chunk_places * chunks
  pub owned : AreOwned n lent
  pub each_desk : (a : ℕ) → a < n → IsDeskOf digits limit n chunks a (slice_index_or desks a no_desk)
  pub inbox_count : length inboxes ≡ n
  pub queued : (b : ℕ) → b < n → All (IsQueuedAt digits n chunks next b) (inbox_at inboxes b)
  pub next_low : 1 ≤ next
  pub next_high : next ≤ last_number + 1

abbrev pub IsFloor : Scheme → ℕ → ℕ → List AnyDeskState → List (Option Buffer) → List (List QueuedState) → ℕ → Type 0
IsFloor digits limit chunks desks lent inboxes next =
    IsFloorOf (length desks) digits limit chunks desks lent inboxes next
