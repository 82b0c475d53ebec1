use Rattle.pool_desk.specs.Steps.{Handles}
use Rattle.event_floor.proofs.DeskLaws.{handle_keeps}
use Rattle.event_floor.proofs.FloorLaws.{floor_settled, floor_desk, floor_inbox, held_desk_of}
use Rattle.event_floor.proofs.HeldLaws.{worked, held_there, held_read}
use Rattle.event_floor.proofs.InboxLaws.{rest_queued, taken_address, taken_digits, taken_known}
use Rattle.event_floor.proofs.lists.Lists.take.Goals as goal

pub handle-counts-requires-clause-address : goal.handle-counts-requires-clause-address
handle-counts-requires-clause-address c =
    let found = c.in_ok-check_held.ensures.held in
    let held = held_there _ _ c.args.b c.deref.ensures.value found in
    let f = c.self.invariant in
    let own_desk = held_desk_of c.args.b found.1 f held.0 held.1 in
    rw (held_read _ _ _ _ c.deref.ensures.value found c.index_mut-desk.ensures.value)
    (taken_address _ _ _ _ _ _ _ _ _ _ own_desk c.in-Some.ensures.leaves (f.queued c.args.b held.0))

pub handle-counts-requires-clause-digits : goal.handle-counts-requires-clause-digits
handle-counts-requires-clause-digits c =
    let found = c.in_ok-check_held.ensures.held in
    let held = held_there _ _ c.args.b c.deref.ensures.value found in
    let f = c.self.invariant in
    let own_desk = held_desk_of c.args.b found.1 f held.0 held.1 in
    rw (held_read _ _ _ _ c.deref.ensures.value found c.index_mut-desk.ensures.value)
    (taken_digits _ _ _ _ _ _ _ _ _ _ own_desk c.in-Some.ensures.leaves (f.queued c.args.b held.0))

pub invariant_of-self-2 : goal.invariant_of-self-2
invariant_of-self-2 c =
    let found = c.in_ok-check_held.ensures.held in
    let held = held_there _ _ c.args.b c.deref.ensures.value found in
    let f = c.self.invariant in
    let own_desk = held_desk_of c.args.b found.1 f held.0 held.1 in
    let queued = f.queued c.args.b held.0 in
    let took = c.in-Some.ensures in
    let after = worked (λ d new. Handles d c.in-Some.batch.items new) _ _ found.1 (held_read _ _ _ _ c.deref.ensures.value found c.index_mut-desk.ensures.value) c.handle-counts.ensures.parts in
    rw (after.1, took.same)
    (floor_settled (floor_inbox c.args.b _
    (floor_desk c.args.b _ f held.0 (handle_keeps _ _ _ _ _ _ _ _ own_desk (taken_known _ _ _ _ _ _ _ _ took.leaves queued) after.2)) held.0
    (rest_queued _ _ _ _ _ _ _ _ took.leaves queued)))
