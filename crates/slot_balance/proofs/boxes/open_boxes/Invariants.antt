use Rattle.std.proofs.Common.{◌≡◌, length, map}
use Rattle.slot_balance.specs.Seats.{taking_of}
use Rattle.slot_balance.specs.Opened.{AreOpened}
use Rattle.slot_balance.proofs.boxes.open_boxes.Given as goal

abbrev pub invariant-loop-address : goal.invariant-loop-address
invariant-loop-address g l = record {
  opened : AreOpened l.fn.digits l.fn.desks (map g.M.Mailbox.id l.inboxes.items)
      (map (taking_of g.T.Receiver.inbox g.T.Receiver.senders g.T.Receiver.taken) l.takes.items) l.columns.items;
  inboxes : length l.inboxes.items ≡ l.address;
  takes : length l.takes.items ≡ l.address;
  columns : length l.columns.items ≡ l.address;
}
