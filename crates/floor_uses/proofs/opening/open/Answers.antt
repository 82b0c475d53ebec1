use Rattle.std.proofs.Common.{ℕ, subst}
use Rattle.event_floor.specs.headline.Listing.{listing_of}
use Rattle.pool_machine.specs.Listing.{Shown}
use Rattle.pool_machine.specs.State.{opening}
use Rattle.floor_uses.proofs.opening.open.Goals as goal

-- the parts are as many as the region has whole chunks
pub returns-in-Ok-new : goal.returns-in-Ok-new
returns-in-Ok-new c =
    subst (λ (n : ℕ). Shown (listing_of c.in-Ok-new.floor) (opening c.args.desks n c.args.digits c.args.limit) (λ slot. 0))
    (c.parts_make_the_whole.ensures c.args.region.now c.in-Ok.parts.items c.in-Ok.ensures.parts.1).0 c.in-Ok-new.ensures.shows
