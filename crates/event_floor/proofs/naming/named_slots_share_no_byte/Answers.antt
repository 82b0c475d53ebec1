use Rattle.std.proofs.Common.{◌≡◌, ◌<◌, ◌≤◌, List, Some, length, sym, ap, ◌∙◌, subst, arith}
use Rattle.std.specs.List.{slice_get}
use Rattle.std.proofs.lemmas.Option.{slice_get_within}
use Rattle.region_cut.specs.Carved.{Carved}
use Rattle.region_cut.specs.Classes.{slots_of}
use Rattle.pool_desk.specs.Homes.{AtHome, slot_at, class_at}
use Rattle.pool_desk.specs.Homes.AtHome.{Kept, Fresh}
use Rattle.event_floor.specs.Floors.{FloorState}
use Rattle.event_floor.specs.headline.Names.{IsNamedHome, AreNames}
use Rattle.event_floor.proofs.headline.Taken.{some_is}
use Rattle.event_floor.proofs.naming.named_slots_share_no_byte.Goals as goal

-- its index is one of its chunk's
low : (v : FloorState) (names : List Carved) → AreNames names v → (x : AtHome) → IsNamedHome names x → (slot_at x).index < slots_of (class_at x)
low v names are (Kept b) h =
    let within = slice_get_within h.chunk.taken b.slot.index b.bytes.ghost_name h.name in
    let few : length h.chunk.taken ≤ slots_of b.class = subst (λ c. length h.chunk.taken ≤ slots_of c) h.class (are.chunks b.slot.chunk h.chunk h.is_chunk).few in
    omega (arith, within, few)
low v names are (Fresh u) h = h.within

-- its chunk is one that was drawn for its class
chunk_at : (names : List Carved) (x : AtHome) → IsNamedHome names x → (c : Carved) × (slice_get names (slot_at x).chunk ≡ Some c) × (c.class ≡ class_at x)
chunk_at names (Kept b) h = (h.chunk, h.is_chunk, h.class)
chunk_at names (Fresh u) h = (h.chunk, h.is_chunk, h.class)

pub returns : goal.returns
returns c = λ v names are x y named other apart byte.
    c.slots_share_no_byte.ensures (slot_at x) (slot_at y) (class_at x) (class_at y) apart
    (λ e.
    let a = chunk_at names x named in
    let b = chunk_at names y other in
    let same : a.0 ≡ b.0 = some_is a.0 b.0 (sym a.1 ∙ (ap (slice_get names) e ∙ b.1)) in
    sym a.2 ∙ (ap (λ (x : Carved). x.class) same ∙ b.2))
    (low v names are x named) (low v names are y other) byte
