use Rattle.std.proofs.Common.{◌≡◌, ◌≤◌, ◌++◌, length, flat_map, sym, subst, ap, ◌∙◌}
use Rattle.region_cut.specs.Parts.{bytes_of}
use Rattle.event_floor.specs.Floors.{FloorState, IsFloor, desk_count, opening}
use Rattle.event_floor.specs.headline.Bytes.{Holds, HoldsSome}
use Rattle.event_floor.specs.headline.Headline.{Shows}
use Rattle.event_floor.specs.headline.Listing.{listing_of}
use Rattle.event_floor.specs.headline.Names.{IsNamed}
use Rattle.event_floor.specs.headline.Whole.{IsWhole}
use Rattle.pool_machine.specs.Listing.{Shown}
use Rattle.pool_machine.specs.State.{opening as machine_opening}
use Rattle.region_cut.proofs.Numbered.{numbered_few}
use Rattle.event_floor.proofs.FloorLaws.{new_desks_length}
use Rattle.event_floor.proofs.headline.Keeping.{opening_named}
use Rattle.event_floor.proofs.headline.Kept.{opening_holds, opening_holds_some}
use Rattle.event_floor.proofs.headline.Runs.{opening_shows}
use Rattle.event_floor.proofs.headline.Wholes.{opening_whole, shows_opening}
use Rattle.event_floor.proofs.floor.Floor.over.Goals as goal

pub invariant_of-result : goal.invariant_of-result
invariant_of-result c =
    let parts = c.args.parts.items in
    let e : c.in_ok-lists.lists ≡ opening c.args.desks parts c.args.digits c.args.limit = c.in_ok-lists.ensures.opening in
    let few : length parts ≤ 1024 = numbered_few parts c.requires.parts in
    subst (λ (v : FloorState). IsWhole v × Shows v × IsNamed v × HoldsSome v) (sym e) (
      opening_whole c.args.desks parts c.args.digits c.args.limit few
          (subst (λ (v : FloorState). IsFloor v.digits v.limit v.chunks v.desks v.lent v.inboxes v.next) e c.keeps.ensures),
      opening_shows c.args.desks parts c.args.digits c.args.limit c.profile-profile.ensures.scheme c.requires.few,
      opening_named c.args.desks parts c.args.digits c.args.limit,
      opening_holds_some c.args.desks parts c.args.digits c.args.limit,
    )

pub returns-clause-shows : goal.returns-clause-shows
returns-clause-shows c =
    let parts = c.args.parts.items in
    let e : c.in_ok-lists.lists ≡ opening c.args.desks parts c.args.digits c.args.limit = c.in_ok-lists.ensures.opening in
    subst (λ v. Shown (listing_of v) (machine_opening c.args.desks (length parts) c.args.digits c.args.limit) (λ slot. 0)) (sym e)
    (shows_opening c.args.desks parts c.args.digits c.args.limit c.profile-profile.ensures.scheme c.requires.few)

pub returns-clause-bytes : goal.returns-clause-bytes
returns-clause-bytes c tail =
    let parts = c.args.parts.items in
    let e : c.in_ok-lists.lists ≡ opening c.args.desks parts c.args.digits c.args.limit = c.in_ok-lists.ensures.opening in
    subst (λ v. Holds v (flat_map bytes_of parts ++ tail)) (sym e) (opening_holds c.args.desks parts c.args.digits c.args.limit tail)

pub returns-clause-parts : goal.returns-clause-parts
returns-clause-parts c = ap (λ (v : FloorState). v.parts) c.in_ok-lists.ensures.opening

pub returns-clause-desks : goal.returns-clause-desks
returns-clause-desks c =
    ap (λ (v : FloorState). desk_count v) c.in_ok-lists.ensures.opening ∙ new_desks_length c.args.digits c.args.limit c.args.desks
