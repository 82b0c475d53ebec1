use Rattle.std.proofs.Common.{map, ◌∙◌}
use Rattle.pool_fabric.specs.Gathered.{taking_of}
use Rattle.slot_balance.proofs.Posting.{length-mapped}
use Rattle.pool_fabric.proofs.Stocked.{rises, are_chunks, is_full}
use Rattle.pool_fabric.proofs.NewBoxes.{opening_of}
use Rattle.pool_fabric.proofs.opening.Opening.new.Goals as goal

pub new-requires-2-clause-order : goal.new-requires-2-clause-order
new-requires-2-clause-order g c = rises c.args.parts.items c.requires.parts

pub new-requires-2-clause-chunks : goal.new-requires-2-clause-chunks
new-requires-2-clause-chunks g c = are_chunks c.args.parts.items c.requires.parts

pub invariant_of-result : goal.invariant_of-result
invariant_of-result g c =
    let boxes = c.in_ok-boxes.boxes in
    let e = c.in_ok-boxes.ensures in
    let taking = taking_of g.T.Receiver.inbox g.T.Receiver.senders g.T.Receiver.taken in
    opening_of c.args.digits c.args.limit c.in_ok-ledger.ledger c.in_ok-ledger.book.loans c.in_ok-stock.stock (map g.M.Mailbox.id boxes.inboxes.items) (map taking boxes.takes.items) boxes.columns.items
    c.args.desks c.in_ok-ledger.book e.opened
    (length-mapped g.M.Mailbox.id boxes.inboxes.items ∙ e.count.0) (length-mapped taking boxes.takes.items ∙ e.count.1) e.count.2
    (c.requires.desks.1, c.requires.desks.2) c.requires.limit
    (is_full c.args.parts.items c.in_ok-stock.stock c.requires.parts c.in_ok-stock.ensures.left c.in_ok-stock.ensures.none) c.in_ok-ledger.ensures
