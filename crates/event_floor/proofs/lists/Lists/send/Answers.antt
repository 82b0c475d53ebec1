use Rattle.std.proofs.Common.{arith}
use Rattle.event_floor.specs.Inboxes.{SendsTo}
use Rattle.event_floor.proofs.DeskLaws.{send_keeps}
use Rattle.event_floor.proofs.FloorLaws.{floor_settled, floor_desk, floor_inbox, floor_next, held_desk_of}
use Rattle.event_floor.proofs.HeldLaws.{worked, within, held_there, held_read}
use Rattle.event_floor.proofs.InboxLaws.{sent_queued}
use Rattle.event_floor.proofs.lists.Lists.send.Goals as goal

pub invariant_of-self-in-Ok : goal.invariant_of-self-in-Ok
invariant_of-self-in-Ok c =
    let there_too = within _ _ _ _ c.if-t-len.false c.len.ensures c.self.inside.desks.ok.0 in
    let found = c.in_ok-check_held.ensures.held in
    let held = held_there _ _ c.args.a c.deref.ensures.value found in
    let own_desk = held_desk_of c.args.a found.1 c.self.invariant held.0 held.1 in
    let g = floor_next c.self.invariant c.if-self-gt-LAST_NUMBER.false in
    let after = worked (λ d new. SendsTo d c.args.t c.self.inside.next c.in-Ok.count c.self.inside.inboxes new c.send.new.inboxes) _ _ found.1
    (held_read _ _ _ _ c.deref.ensures.value found c.index_mut-desk.ensures.value) c.in-Ok.ensures.sends in
    let s = after.2 in
    rw s.same
    (floor_settled (floor_inbox c.args.t _
    (floor_desk c.args.a c.send.new.self g held.0 (rw after.1 (send_keeps _ _ _ _ _ _ _ _ _ s.sends.batch own_desk s.sends.same_desk s.sends.gives))) there_too
    (sent_queued _ _ _ _ _ c.args.a _ _ _ _ _ _ _ (g.queued c.args.t there_too) own_desk held.0 (omega arith) s.sends)))
