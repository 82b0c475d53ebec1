use Rattle.std.proofs.Common.{◌<◌, ◌∙◌, ap, sym, subst, length}
use Rattle.std.proofs.lemmas.List.{length-set}
use Rattle.region_cut.specs.declared.slot.Slot.{Slot}
use Rattle.pool_desk.specs.Steps.{Frees}
use Rattle.event_floor.specs.Floors.{AreOwned, FitsFloor}
use Rattle.event_floor.proofs.DeskLaws.{free_keeps}
use Rattle.event_floor.proofs.FloorLaws.{floor_settled, floor_desk, floor_lent, owned_set, lent_owned, chunk_within, held_desk_of}
use Rattle.event_floor.proofs.HeldLaws.{worked, held_there, held_read}
use Rattle.event_floor.proofs.lists.Lists.free.Goals as goal

pub invariant_of-self-2 : goal.invariant_of-self-2
invariant_of-self-2 c =
    let found = c.in_ok-check_held.ensures.held in
    let held = held_there _ _ c.args.a c.deref.ensures.value found in
    let f = c.self.invariant in
    let own_desk = held_desk_of c.args.a found.1 f held.0 held.1 in
    let took = c.in-Some.ensures in
    let index : c.in-Some.buf.slot.index < 256 = subst (λ (z : Slot). z.index < 256) (sym took.1) took.2 in
    let known : FitsFloor (length c.self.inside.desks.items) (length c.self.inside.chunks.parts) c.in-Some.buf =
    record { owner = lent_owned _ _ _ _ c.in-Some.buf f.owned took.0; chunk = chunk_within _ _ _ _ took.3 f.table; index = index } in
    let after = worked (λ d new. Frees d c.in-Some.buf c.free.result new) _ _ found.1 (held_read _ _ _ _ c.deref.ensures.value found c.index_mut-desk.ensures.value) c.free.ensures in
    rw after.1
    (floor_settled (floor_desk c.args.a _
    (floor_lent _ f (ap length took.4 ∙ length-set _ _ _) (subst (λ z. AreOwned (length c.self.inside.desks.items) z) (sym took.4) (owned_set _ _ _ _ f.owned took.3 tt))) held.0
    (free_keeps _ _ _ _ _ _ _ c.in-Some.buf _ own_desk known after.2)))
