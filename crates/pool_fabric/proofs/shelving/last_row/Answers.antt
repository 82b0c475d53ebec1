use Rattle.std.proofs.Common.{sym, ◌∙◌}
use Rattle.slot_balance.proofs.Posting.{length-mapped}
use Rattle.slot_balance.proofs.Rows.{parted_count}
use Rattle.pool_fabric.specs.Seats.{seat_of}
use Rattle.pool_fabric.proofs.Opens.{columns_parted}
use Rattle.pool_fabric.proofs.shelving.last_row.Goals as goal

pub returns-clause-columns : goal.returns-clause-columns
returns-clause-columns g c =
    let p = c.in_ok-columns.ensures in
    ((columns_parted g.J.Naming.names c.args.last _ _ _ p c.requires).0, (parted_count _ _ _ p).0)

pub returns-clause-seats : goal.returns-clause-seats
returns-clause-seats g c =
    let as_seat = seat_of g.S.Sender.inbox g.S.Sender.number g.S.Sender.sent g.S.Sender.resting in
    let p = c.in_ok-columns.ensures in
    let of = columns_parted g.J.Naming.names c.args.last _ _ _ p c.requires in
    (of.1, sym (length-mapped as_seat c.in_ok-columns.field-0.last.items) ∙ (parted_count _ _ _ p).1, of.2)
