-- A floor's lists, each buffer without its bytes.
use Rattle.std.specs.Prelude.{ℕ, [], map, Some, None}
use Rattle.slot_chain.specs.Buffer.{Buffer}
use Rattle.pool_desk.specs.Homes.{AtHome}
use Rattle.pool_desk.specs.Homes.AtHome.{Kept, Fresh}
use Rattle.event_floor.specs.Desks.{AnyDeskState}
use Rattle.event_floor.specs.Desks.AnyDeskState.{Idle, Held}
use Rattle.event_floor.specs.Lent.{buffers_lent}
use Rattle.event_floor.specs.Inboxes.{QueuedState}
use Rattle.event_floor.specs.Floors.{FloorState}
use Rattle.pool_machine.specs.Listing.{Entry, DeskListing, BatchListing, Listing}

-- a buffer without its bytes
abbrev pub entry_of : Buffer → Entry
entry_of b = record { slot = b.slot; class = b.class; owner = b.owner; forwards = b.forwards }

-- a slot at home with this desk: one that was never handed out was never passed on
abbrev pub entry_at : ℕ → AtHome → Entry
entry_at owner (Kept b) = entry_of b
entry_at owner (Fresh u) = record { slot = u.slot; class = u.class; owner = owner; forwards = 0 }

abbrev pub desk_of : AnyDeskState → DeskListing
desk_of (Idle d) = record { worker = None; home = map (entry_at d.number) d.home; cache = [] }
desk_of (Held d) = record {
  worker = Some d.worker;
  home = map (entry_at d.number) d.home;
  cache = map entry_of d.cached;
}

abbrev pub batch_of : QueuedState → BatchListing
batch_of p = record { batch = p.batch; buffers = map entry_of p.buffers }

abbrev pub listing_of : FloorState → Listing
listing_of v = record {
  digits = v.digits;
  limit = v.limit;
  chunks = v.chunks;
  drawn = v.drawn;
  desks = map desk_of v.desks;
  lent = map entry_of (buffers_lent v.lent);
  inboxes = map (map batch_of) v.inboxes;
  next = v.next;
}
