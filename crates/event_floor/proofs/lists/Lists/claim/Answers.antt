use Rattle.std.proofs.Common.{refl, ap, sym}
use Rattle.pool_desk.specs.Steps.{Claims}
use Rattle.event_floor.specs.Chunks.{ChunksState}
use Rattle.event_floor.proofs.DeskLaws.{claim_keeps}
use Rattle.event_floor.proofs.FloorLaws.{floor_settled, floor_desk, held_desk_of, few_classes}
use Rattle.event_floor.proofs.HeldLaws.{worked, held_there, held_read}
use Rattle.event_floor.proofs.StepLaws.{draws_chunk}
use Rattle.event_floor.proofs.lists.Lists.claim.Goals as goal

pub invariant_of-self-2 : goal.invariant_of-self-2
invariant_of-self-2 c =
    let found = c.in_ok-check_held.ensures.held in
    let held = held_there _ _ c.args.a c.deref.ensures.value found in
    let f = c.self.invariant in
    let own_desk = held_desk_of c.args.a found.1 f held.0 held.1 in
    let few = c.in-Some.ensures in
    let drew = c.in-Some-draw.ensures in
    let after = worked (λ d new. Claims d c.in-Some-draw.part c.in-Some.class new) _ _ found.1 (held_read _ _ _ _ c.deref.ensures.value found c.index_mut-desk.ensures.value) c.claim_needed.ensures in
    rw (after.1, ap (λ (z : ChunksState). z.parts) drew.4)
    (floor_settled (floor_desk c.args.a _ f held.0
    (claim_keeps _ _ _ _ _ _ _ _ _ own_desk (few_classes c.self.inside.digits _ (rw (sym few.0) at few.1)) (rw (sym drew.0) at drew.2) after.2)))

pub returns-clause-does : goal.returns-clause-does
returns-clause-does c =
    let found = c.in_ok-check_held.ensures.held in
    let held = held_there _ _ c.args.a c.deref.ensures.value found in
    let few = c.in-Some.ensures in
    let drew = c.in-Some-draw.ensures in
    let after = worked (λ d new. Claims d c.in-Some-draw.part c.in-Some.class new) _ _ found.1 (held_read _ _ _ _ c.deref.ensures.value found c.index_mut-desk.ensures.value) c.claim_needed.ensures in
    rw after.1
    (draws_chunk _ _ _ _ _ _ _ _ _ c.self.inside.chunks c.draw.new.self c.self.view_is held few.0 few.1
    refl refl refl drew.0 drew.1 drew.2 refl drew.3 drew.4 after.2 c.chunk-chunk.ensures)
