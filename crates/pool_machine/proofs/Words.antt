-- Words of the proofs for what the definitions write out.
use Rattle.std.proofs.Common.{ℕ, Bool, true, false, ◌&&◌, not, ◌==◌, List, filter, Option, if◌then◌else◌}
use Rattle.std.specs.Prelude.{slice_get}
use Rattle.std.specs.Option.{option_map_or}
use Rattle.digit_route.specs.Digits.{common}
use Rattle.region_cut.specs.declared.slot.Slot.{Slot}
use Rattle.region_cut.specs.Slots.{same_slot}
use Rattle.pool_machine.specs.declared.chunk.DrawnChunk.{DrawnChunk}
use Rattle.pool_machine.specs.State.{Place, AtHome, InBatch, State, Waiting, owner_of, cached_bytes, is_at, slots_at}
use Rattle.pool_machine.specs.Listing.{BatchListing}
use Rattle.pool_machine.specs.Steps.{moved, after_free, front_of}

-- the owner and the class of a chunk, 0 where it isn't drawn
abbrev pub owner_or : Option DrawnChunk → ℕ
owner_or o = option_map_or (λ (d : DrawnChunk). d.owner) o 0

abbrev pub class_or : Option DrawnChunk → ℕ
class_or o = option_map_or (λ (d : DrawnChunk). d.class) o 0

-- the slot is at home with desk a
abbrev pub at_home_with : State → ℕ → Slot → Bool
at_home_with st a s = is_at st AtHome s && (owner_of st s == a)

-- the batch has the number n, and still has to be linked
abbrev pub is_unlinked : ℕ → Waiting → Bool
is_unlinked n w = (n == w.number) && not w.linked

-- the batch is linked where it has the number n
abbrev pub link_one : ℕ → Waiting → Waiting
link_one n w = if n == w.number then record w { linked = true } else w

-- one slot goes to a place
abbrev pub with_moved : Slot → Place → State → State
with_moved r q st = moved (same_slot r) (λ s. q) st

-- the bytes in the cache of a, once the slot was freed there
abbrev pub bytes_with : State → ℕ → Slot → ℕ
bytes_with st a s = cached_bytes (after_free st a s) a

-- the slots of the front of the inbox of b: those that b owns, and the others
abbrev pub coming_home : State → ℕ → List Slot
coming_home st b = filter (λ s. owner_of st s == b) (slots_at st (InBatch (front_of st b)))

abbrev pub going_on : State → ℕ → List Slot
going_on st b = filter (λ s. not (owner_of st s == b)) (slots_at st (InBatch (front_of st b)))

-- how many leading digits the numbers of two desks share
abbrev pub near : State → ℕ → ℕ → ℕ
near st x y = common st.digits x y

-- a batch of a list, without its buffers
abbrev pub as_waiting : BatchListing → Waiting
as_waiting w = w.batch

-- the front of an inbox may be taken
abbrev pub front_ready : List Waiting → Bool
front_ready ws = option_map_or (λ (w : Waiting). w.linked) (slice_get ws 0) false

-- the number of the first batch
abbrev pub front_number : List Waiting → ℕ
front_number ws = option_map_or (λ (w : Waiting). w.number) (slice_get ws 0) 0
