use Rattle.event_floor.proofs.DeskLaws.{release_keeps}
use Rattle.event_floor.proofs.FloorLaws.{floor_settled, floor_desk, desk_of_floor}
use Rattle.event_floor.proofs.HeldLaws.{is_there}
use Rattle.event_floor.proofs.lists.Lists.retire.Goals as goal

pub invariant_of-self : goal.invariant_of-self
invariant_of-self c =
    let there = is_there _ _ _ c.deref.ensures.value c.in_ok-check_held.ensures.held in
    let f = c.self.invariant in
    floor_settled (floor_desk c.args.a _ f there
    (release_keeps _ _ _ _ _ c.index_mut.result.now c.release.new.self c.release.result (desk_of_floor c.args.a _ f there c.index_mut.ensures.value) c.release.ensures))
