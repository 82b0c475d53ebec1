use Rattle.std.proofs.Common.{◌<◌, length, arith}
use Rattle.event_floor.proofs.ListLaws.{listed_more}
use Rattle.event_floor.proofs.inbox.Inbox.slots.Goals as goal

pub loop-i-preserved : goal.loop-i-preserved
loop-i-preserved c =
    let l : c.loop-i.i < length c.self.inside.batches.items = omega (arith, c.loop-i-test.true, c.len-i-end.ensures, c.self.inside.batches.ok) in
    listed_more c.self.inside.batches.items c.loop-i.i c.index.result.now _ _ l c.index.ensures c.loop-i.invariant c.in_ok-list_slots.ensures
