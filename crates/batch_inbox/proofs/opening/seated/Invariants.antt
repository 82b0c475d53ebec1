use Rattle.std.proofs.Common.{◌≡◌, [], length}
use Rattle.crossbeam_queue.specs.SegTies.{IsSegPassOf}
use Rattle.batch_inbox.specs.Views.{taker}
use Rattle.batch_inbox.specs.States.{inbox_of, AreSeatsOf, AreNew}
use Rattle.batch_inbox.proofs.opening.seated.Given as goal

abbrev pub invariant-loop-sender : goal.invariant-loop-sender
invariant-loop-sender l =
    IsSegPassOf l.queue l.pass
    × (l.pass.me.view.client ≡ taker l.initial.pass.me.view.client.place l.sender [] [])
    × AreSeatsOf (inbox_of l.queue.web l.initial.pass.me.view.client.place) l.seats.items
    × (length l.seats.items ≡ l.sender)
    × AreNew l.seats.items
