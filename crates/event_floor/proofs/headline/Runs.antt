-- Runs of a floor, one request longer.
use Rattle.std.proofs.Common.{ℕ, List, [], ◌∷◌, ◌++◌, ◌^◌, ◌≤◌}
use Rattle.digit_route.specs.Digits.{Scheme, IsScheme}
use Rattle.pool_machine.specs.declared.request.Request.{Request}
use Rattle.region_cut.specs.declared.part.Part.{Part}
use Rattle.event_floor.specs.Floors.{FloorState, opening}
use Rattle.event_floor.specs.Steps.{Answers}
use Rattle.pool_machine.specs.Steps.{Answer}
use Rattle.pool_machine.specs.Headline.{AppliesAll as ListingAppliesAll}
use Rattle.event_floor.specs.headline.Headline.{Shows, Applies, Headline}
use Rattle.event_floor.specs.headline.Listing.{listing_of}
use Rattle.event_floor.specs.headline.Whole.{IsWhole}
use Rattle.pool_machine.proofs.Joins.{applies_none, applies_push, shows_next, headline}
use Rattle.pool_machine.proofs.Shown.{applies}
use Rattle.event_floor.proofs.headline.Serves.{serves}
use Rattle.event_floor.proofs.headline.Wholes.{shows_opening}

-- a list of requests is a run of the machine
unfoldable pub AppliesAll : FloorState → List Request → List Answer → FloorState → Type 0
AppliesAll old requests answers new = ListingAppliesAll (listing_of old) requests answers (listing_of new)

pub step_applies : (v w : FloorState) (q : Request) (y : Answer) → IsWhole v → Answers v q y w → Applies v q y w
unfolding Applies
step_applies v w q y f h = applies (listing_of v) (listing_of w) q y (serves v w q y f h)

pub step_shows : (v w : FloorState) (q : Request) (y : Answer) → Applies v q y w → Shows v → Shows w
unfolding Applies Shows
step_shows v w q y f s = shows_next (listing_of v) (listing_of w) q y f s

pub run_none : (v : FloorState) → AppliesAll v [] [] v
unfolding AppliesAll
run_none v = applies_none (listing_of v)

pub run_push : (u v w : FloorState) (qs : List Request) (ys : List Answer) (q : Request) (y : Answer) → AppliesAll u qs ys v → Applies v q y w
    → AppliesAll u (qs ++ q ∷ []) (ys ++ y ∷ []) w
unfolding AppliesAll Applies
run_push u v w qs ys q y more one = applies_push (listing_of u) (listing_of v) (listing_of w) qs ys q y more one

pub run_headline : (u v : FloorState) (qs : List Request) (ys : List Answer) → AppliesAll u qs ys v → Headline u qs ys v
unfolding AppliesAll Headline
run_headline u v qs ys f = headline (listing_of u) qs ys (listing_of v) f

pub opening_shows : (desks : ℕ) (parts : List Part) (digits : Scheme) (limit : ℕ) → IsScheme digits → desks ≤ 2 ^ digits.bits → Shows (opening desks parts digits limit)
unfolding Shows
opening_shows desks parts digits limit i l = (_, _, shows_opening desks parts digits limit i l)
