use Rattle.std.proofs.Common.{◌+◌, [], ◌∷◌, map, sym, ap, ◌∙◌, length-append}
use Rattle.slot_balance.specs.Seats.{taking_of}
use Rattle.slot_balance.specs.Seats.{seat_of}
use Rattle.slot_balance.proofs.Posting.{length-mapped}
use Rattle.slot_balance.proofs.Rows.{map-snoc}
use Rattle.slot_balance.proofs.Opened.{opened_more, new_seats}
use Rattle.slot_balance.proofs.boxes.open_boxes.Goals as goal

pub loop-address-preserved : goal.loop-address-preserved
loop-address-preserved g c =
    let i = c.loop-address.invariant in
    let e = c.in_ok-inbox.ensures in
    let id = g.M.Mailbox.id in
    let taking = taking_of g.T.Receiver.inbox g.T.Receiver.senders g.T.Receiver.taken in
    let as_seat = seat_of g.S.Sender.inbox g.S.Sender.number g.S.Sender.sent g.S.Sender.resting in
    let boxes = map id c.loop-address.inboxes.items in
    let takes = map taking c.loop-address.takes.items in
    let column = map as_seat c.in_ok-inbox.seats.items in
    let here = length-mapped id c.loop-address.inboxes.items in
    let at = here ∙ i.inboxes in
    let seats = new_seats g.S.Sender.inbox g.S.Sender.number g.S.Sender.sent g.S.Sender.resting (id c.in_ok-inbox.inbox) c.in_ok-inbox.seats.items e.senders in
    let more = opened_more c.args.digits c.args.desks boxes takes c.loop-address.columns.items (id c.in_ok-inbox.inbox) (taking c.in_ok-inbox.take) column i.opened
    (length-mapped taking c.loop-address.takes.items ∙ i.takes ∙ sym at) (i.columns ∙ sym at)
    (e.inbox ∙ (λ j. record { address = sym at j; digits = c.args.digits }))
    e.receiver (length-mapped as_seat c.in_ok-inbox.seats.items ∙ e.count, seats.0, seats.1) in
    rw (c.in_ok-push.ensures.items, c.in_ok-push-2.ensures.items, c.in_ok-push-3.ensures.items, c.new.ensures) (record {
      opened = rw (map-snoc id c.loop-address.inboxes.items c.in_ok-inbox.inbox, map-snoc taking c.loop-address.takes.items c.in_ok-inbox.take) more;
      inboxes = length-append c.loop-address.inboxes.items (c.in_ok-inbox.inbox ∷ []) ∙ ap (λ n. n + 1) i.inboxes;
      takes = length-append c.loop-address.takes.items (c.in_ok-inbox.take ∷ []) ∙ ap (λ n. n + 1) i.takes;
      columns = length-append c.loop-address.columns.items (column ∷ []) ∙ ap (λ n. n + 1) i.columns;
    })
