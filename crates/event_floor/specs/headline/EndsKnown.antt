-- What is known of a region once a floor over it is ended.
use Rattle.std.specs.Prelude.{ℕ, ◌≡◌, List, [], ◌∷◌, ◌++◌, length, map, drop, flat_map, All}
use Rattle.std.specs.Borrow.{GName}
use Rattle.region_cut.specs.Limits.{chunk_size}
use Rattle.region_cut.specs.Carved.{Carved}
use Rattle.region_cut.specs.Endings.{Ended, IsKnown, end_in}
use Rattle.region_cut.specs.Laws.{StandsAt}
use Rattle.region_cut.specs.Ranges.{start_of}
use Rattle.slot_chain.specs.Buffer.{Buffer}
use Rattle.pool_desk.specs.Homes.{AtHome, Unused, kept_in}
use Rattle.pool_desk.specs.Homes.AtHome.{Kept, Fresh}
use Rattle.event_floor.specs.Lent.{buffers_lent}
use Rattle.event_floor.specs.Inboxes.{buffers_in}
use Rattle.event_floor.specs.Desks.{AnyDeskState, home_of, cached_of}
use Rattle.event_floor.specs.Floors.{FloorState}
use Rattle.event_floor.specs.headline.Names.{chunks_of}

-- the buffers at home with a desk, and those in its cache
abbrev pub buffers_with : AnyDeskState → List Buffer
buffers_with s = kept_in (home_of s) ++ cached_of s

-- all buffers of a floor: with its desks, lent, and in batches
abbrev pub buffers_of : FloorState → List Buffer
buffers_of v = flat_map buffers_with v.desks ++ (buffers_lent v.lent ++ flat_map buffers_in v.inboxes)

-- those of the slots at home that were never handed out, and all such slots of a floor
abbrev pub fresh_in : List AtHome → List Unused
fresh_in [] = []
fresh_in (Kept b ∷ hs) = fresh_in hs
fresh_in (Fresh u ∷ hs) = u ∷ fresh_in hs

abbrev pub fresh_of : FloorState → List Unused
fresh_of v = flat_map (λ s. fresh_in (home_of s)) v.desks

-- the names of the parts that aren't drawn
abbrev pub undrawn_parts : FloorState → List GName
undrawn_parts v = drop (length v.drawn) v.parts

-- a drawn chunk ends as the slots that were ever handed out of it, in order, and behind them as what was left of it,
-- unchanged
abbrev pub EndsAsDrawn : List Ended → Carved → Type 0
EndsAsDrawn known c = end_in known c.whole ≡ flat_map (end_in known) c.taken ++ c.rest

-- It is known what each part of the floor ends as, a whole chunk. Where a region begins with what they end as, in
-- order, each buffer of the floor stands at the range of its slot of the region, with the bytes that it has now, and so
-- does each slot that was never handed out: each slot of each drawn chunk. What was left of a drawn chunk ends as it
-- is, and so does a part that isn't drawn.
pub record EndsKnown (v : FloorState) (known : List Ended) : Type 0 where
  pub parts : All (IsKnown known) v.parts
  pub whole : All (λ x. length (end_in known x) ≡ chunk_size) v.parts
  pub buffers : (tail : List ℕ) → All (λ (b : Buffer). StandsAt b.bytes.now (start_of b.slot b.class)
      (flat_map (end_in known) v.parts ++ tail)) (buffers_of v)
  pub fresh : (tail : List ℕ) → All (λ (u : Unused). StandsAt u.bytes (start_of u.slot u.class)
      (flat_map (end_in known) v.parts ++ tail)) (fresh_of v)
  pub drawn : All (EndsAsDrawn known) (flat_map chunks_of v.desks)
  pub undrawn : map (end_in known) (undrawn_parts v) ≡ v.undrawn
