-- Nothing is lost, and nothing is there twice.
use Rattle.std.specs.Prelude.{◌≡◌, ℕ, ◌+◌, ◌≤◌, List, length, Option, Some, slice_get}
use Rattle.region_cut.specs.Carved.{Carved}
use Rattle.region_cut.specs.declared.slot.Slot.{Slot}
use Rattle.region_cut.specs.declared.part.Part.{Part}
use Rattle.slot_chain.specs.Buffer.{Buffer}
use Rattle.digit_route.specs.States.{BatchState}
use Rattle.slot_audit.specs.Audit.{class_noted}
use Rattle.pool_desk.specs.Desks.{DeskState}
use Rattle.slot_balance.specs.Weights.{weigh}
use Rattle.pool_fabric.specs.Accounts.{of_buffer, of_batch, of_part, held, owed, drawn_by}
use Rattle.pool_fabric.specs.Stations.{StationState}

-- However slots are weighed: those found at home, in caches and in batches, with those that were lent,
-- are all slots of the drawn chunks, with those that were freed.
-- However chunks are weighed: those that were drawn and those that are left are the chunks that there were.
pub record IsWhole
    (desks : List DeskState) (batches : List BatchState) (lent freed : List Buffer)
    (parts : List Part) (chunks_there : List ℕ) : Type 0 where
  pub slots : (h : Slot → ℕ)
      → weigh (held h) desks + weigh (of_batch h) batches + weigh (of_buffer h) lent
      ≡ weigh (owed h) desks + weigh (of_buffer h) freed
  pub chunks : (g : ℕ → ℕ) → weigh (drawn_by g) desks + weigh (of_part g) parts ≡ weigh g chunks_there

-- However slots are weighed: what was freed weighs at most what was lent. So no slot was freed more often than it was lent.
abbrev pub FreesNoMore : List Buffer → List Buffer → Type 0
FreesNoMore lent freed = (h : Slot → ℕ) → weigh (of_buffer h) freed ≤ weigh (of_buffer h) lent

-- These are the desks of the stations, all that they lent and all that was freed to them, and nothing else, however
-- desks and buffers are weighed.
pub record IsAllOf (stations : List StationState) (desks : List DeskState) (lent freed : List Buffer) : Type 0 where
  pub every_desk : (h : DeskState → ℕ) → weigh h desks ≡ weigh (λ (s : StationState). h s.desk) stations
  pub all_lent : (h : Buffer → ℕ) → weigh h lent ≡ weigh (λ (s : StationState). weigh h s.lent) stations
  pub all_freed : (h : Buffer → ℕ) → weigh h freed ≡ weigh (λ (s : StationState). weigh h s.freed) stations

-- so many desks, each at its number: none is missing, and none is there twice
pub record IsEachDesk (count : ℕ) (desks : List DeskState) : Type 0 where
  pub many : length desks ≡ count
  pub each : (k : ℕ) (d : DeskState) → slice_get desks k ≡ Some d → d.number ≡ k

-- one of the desks drew the chunk, for the class
pub record IsDrawn (desks : List DeskState) (chunk class : ℕ) : Type 0 where
  pub number : ℕ
  pub desk : DeskState
  pub is_one : slice_get desks number ≡ Some desk
  pub place : ℕ
  pub part : Carved
  pub drawn : slice_get desk.drawn place ≡ Some part
  pub chunk_is : part.chunk ≡ chunk
  pub class_is : part.class ≡ class

-- the chunks that are told as drawn are those that the desks drew, each for its class
pub record AreNoted (desks : List DeskState) (drawn : List (Option ℕ)) : Type 0 where
  pub only : (chunk class : ℕ) → class_noted drawn chunk ≡ Some class → IsDrawn desks chunk class
  pub all : (chunk class : ℕ) → IsDrawn desks chunk class → class_noted drawn chunk ≡ Some class
