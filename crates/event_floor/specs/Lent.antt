-- The table of the lent buffers.
use Rattle.std.specs.Prelude.{ℕ, ◌≡◌, ◌<◌, ◌+◌, ◌*◌, List, Option, None, IfSome, slice_index_or, nat_lt, if◌then◌else◌}
use Rattle.std.specs.List.{flat_map}
use Rattle.std.specs.Option.{option_to_list}
use Rattle.region_cut.specs.declared.slot.Slot.{Slot}
use Rattle.slot_chain.specs.Buffer.{Buffer}

-- how many places a chunk has in the table, one for each slot that it could have
abbrev pub chunk_places : ℕ
chunk_places = 256

-- where the buffer of a slot lies
abbrev pub index_of : Slot → ℕ
index_of s = chunk_places * s.chunk + s.index

-- the lent buffer of the slot with these numbers
abbrev pub lent_at : List (Option Buffer) → ℕ → ℕ → Option Buffer
lent_at places chunk index =
    if nat_lt index chunk_places then slice_index_or places (chunk_places * chunk + index) None else None

-- each buffer lies in the place of its slot
abbrev pub AreInPlace : List (Option Buffer) → Type 0
AreInPlace places =
    (i : ℕ) → IfSome (slice_index_or places i None)
    (λ (b : Buffer). (index_of b.slot ≡ i) × (b.slot.index < chunk_places))

-- the lent buffers, in the order of their places
abbrev pub buffers_lent : List (Option Buffer) → List Buffer
buffers_lent places = flat_map option_to_list places
