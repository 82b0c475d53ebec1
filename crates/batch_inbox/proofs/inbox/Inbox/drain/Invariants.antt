use Rattle.std.proofs.Common.{◌≡◌, ◌++◌, map}
use Rattle.crossbeam_queue.specs.SegTies.{IsSegPassOf}
use Rattle.batch_inbox.specs.Views.{taker}
use Rattle.batch_inbox.proofs.Drained.{sent_by}
use Rattle.batch_inbox.proofs.inbox.Inbox.drain.Given as goal

abbrev pub invariant-loop-seat : goal.invariant-loop-seat
invariant-loop-seat g l =
    (goal.iterator-loop-seat g).can_next l.seat-iterator ×
    (goal.iterator-loop-seat g).is_finite l.seat-iterator
    × IsSegPassOf l.queue l.pass
    × (l.pass.me.view.client ≡ taker l.initial.pass.me.view.client.place l.initial.pass.me.view.client.made l.initial.pass.me.view.client.taken (map sent_by l.yielded))
    × (l.yielded ++ l.seat-iterator.rest.items ≡ l.fn.seats.items)
