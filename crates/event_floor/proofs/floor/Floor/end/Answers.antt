use Rattle.std.proofs.Common.{ap, subst}
use Rattle.region_cut.specs.Endings.{EndingsState}
use Rattle.event_floor.specs.Floors.{FloorState}
use Rattle.event_floor.specs.headline.Bytes.{EndsAsHeld}
use Rattle.event_floor.specs.headline.EndsKnown.{EndsKnown}
use Rattle.event_floor.proofs.headline.Ends.{floor_slots, floor_ends, floor_held}
use Rattle.event_floor.proofs.floor.Floor.end.Goals as goal

pub close_chunks-requires : goal.close_chunks-requires
close_chunks-requires c =
    let k = c.self.invariant in
    let e = c.end-endings.ensures in
    floor_slots c.self.inside.lists k.0 k.1 k.2 c.end-endings.result.known c.end-endings.result.chunks c.agree.ensures e.chunks e.known

pub returns-clause-known : goal.returns-clause-known
returns-clause-known c =
    let k = c.self.invariant in
    let e = c.end-endings.ensures in
    let new = c.close_chunks.new.self in
    subst (λ (v : FloorState). EndsKnown v new.known) c.self.view_is
    (floor_ends c.self.inside.lists k.0 k.1 k.2 c.end-endings.result.known c.end-endings.result.chunks c.agree.ensures e.chunks e.known
    new.known (ap (λ (s : EndingsState). s.known) c.close_chunks.ensures) c.agree-2.ensures c.known_ends_stay.ensures c.slots_lie_at_their_ranges.ensures c.slices_lie_in_order.ensures)

pub returns-clause-bytes : goal.returns-clause-bytes
returns-clause-bytes c =
    let k = c.self.invariant in
    let e = c.end-endings.ensures in
    let new = c.close_chunks.new.self in
    subst (λ (v : FloorState). EndsAsHeld v new.known) c.self.view_is
    (floor_held c.self.inside.lists k.0 k.1 k.2 c.end-endings.result.known c.end-endings.result.chunks c.agree.ensures e.chunks e.known
    new.known (ap (λ (s : EndingsState). s.known) c.close_chunks.ensures) c.agree-2.ensures c.known_ends_stay.ensures)
