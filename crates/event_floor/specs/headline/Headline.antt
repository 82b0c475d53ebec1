-- What a run of a floor comes to.
use Rattle.std.specs.Prelude.{List}
use Rattle.pool_machine.specs.declared.request.Request.{Request}
use Rattle.event_floor.specs.Floors.{FloorState}
use Rattle.pool_machine.specs.Steps.{Answer}
use Rattle.pool_machine.specs.Headline.{Applies as ListingApplies, Headline as ListingHeadline}
use Rattle.pool_machine.specs.Headline.{ShowsSome as ListingShows}
use Rattle.event_floor.specs.headline.Listing.{listing_of}

-- the floor's lists show some state that a run of the machine leads to
unfoldable pub Shows : FloorState → Type 0
Shows v = ListingShows (listing_of v)

-- one request is one step of the machine, on each state that the old lists show
unfoldable pub Applies : FloorState → Request → Answer → FloorState → Type 0
Applies old request answer new = ListingApplies (listing_of old) request answer (listing_of new)

-- The answers are a run of the machine, from each state that the old lists show to one that the new lists show: each
-- list has the slots that the machine has there, each once; each inbox has the machine's batches in their order; and
-- each buffer in a cache or a batch carries the count of the times that it was passed on.
unfoldable pub Headline : FloorState → List Request → List Answer → FloorState → Type 0
Headline old requests answers new = ListingHeadline (listing_of old) requests answers (listing_of new)
