use Rattle.std.proofs.Common.{◌∙◌, Ok, ap, sym, subst, length}
use Rattle.std.proofs.lemmas.List.{length-set}
use Rattle.pool_desk.specs.Steps.{Allocs}
use Rattle.event_floor.specs.Floors.{AreOwned}
use Rattle.event_floor.proofs.DeskLaws.{alloc_keeps, alloc_placed}
use Rattle.event_floor.proofs.FloorLaws.{floor_settled, floor_desk, floor_lent, owned_set, place_within, held_desk_of}
use Rattle.event_floor.proofs.HeldLaws.{worked, held_there, held_read}
use Rattle.event_floor.proofs.lists.Lists.alloc.Goals as goal

pub put-requires-clause-within : goal.put-requires-clause-within
put-requires-clause-within c =
    let found = c.in_ok-check_held.ensures.held in
    let held = held_there _ _ c.args.a c.deref.ensures.value found in
    let f = c.self.invariant in
    let own_desk = held_desk_of c.args.a found.1 f held.0 held.1 in
    let after = worked (λ d new. Allocs d c.args.size (Ok c.in-Ok.buf) new) _ _ found.1 (held_read _ _ _ _ c.deref.ensures.value found c.index_mut-desk.ensures.value) c.in-Ok.ensures in
    let at = alloc_placed _ _ _ _ _ _ _ _ c.in-Ok.buf own_desk after.2 in
    place_within _ _ _ _ at.0 at.1 f.table

pub put-requires-clause-index : goal.put-requires-clause-index
put-requires-clause-index c =
    let found = c.in_ok-check_held.ensures.held in
    let held = held_there _ _ c.args.a c.deref.ensures.value found in
    let own_desk = held_desk_of c.args.a found.1 c.self.invariant held.0 held.1 in
    let after = worked (λ d new. Allocs d c.args.size (Ok c.in-Ok.buf) new) _ _ found.1 (held_read _ _ _ _ c.deref.ensures.value found c.index_mut-desk.ensures.value) c.in-Ok.ensures in
    (alloc_placed _ _ _ _ _ _ _ _ c.in-Ok.buf own_desk after.2).1

pub invariant_of-self : goal.invariant_of-self
invariant_of-self c =
    let found = c.in_ok-check_held.ensures.held in
    let held = held_there _ _ c.args.a c.deref.ensures.value found in
    let f = c.self.invariant in
    let own_desk = held_desk_of c.args.a found.1 f held.0 held.1 in
    let after = worked (λ d new. Allocs d c.args.size (Ok c.in-Ok.buf) new) _ _ found.1 (held_read _ _ _ _ c.deref.ensures.value found c.index_mut-desk.ensures.value) c.in-Ok.ensures in
    let at = alloc_placed _ _ _ _ _ _ _ _ c.in-Ok.buf own_desk after.2 in
    let own = owned_set _ _ _ _ f.owned (place_within _ _ _ _ at.0 at.1 f.table) (rw (after.2.1.owner_is ∙ own_desk.numbered.0) held.0) in
    rw after.1
    (floor_settled (floor_desk c.args.a _
    (floor_lent _ f (ap length c.put.ensures ∙ length-set _ _ _) (subst (λ z. AreOwned (length c.self.inside.desks.items) z) (sym c.put.ensures) own)) held.0
    (alloc_keeps _ _ _ _ _ _ _ _ _ own_desk after.2)))
