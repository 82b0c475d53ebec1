use Rattle.std.proofs.Common.{sym, ◌∙◌}
use Rattle.slot_balance.proofs.Posting.{length-mapped}
use Rattle.slot_balance.proofs.Rows.{parted_count, parted_sum}
use Rattle.pool_fabric.specs.Seats.{seat_of}
use Rattle.pool_fabric.proofs.Columns.{no_row_empty, rows_parted}
use Rattle.pool_fabric.proofs.column.last_column.Goals as goal

pub part_last-requires : goal.part_last-requires
part_last-requires g c = no_row_empty g.J.Naming.names c.args.last c.args.rows.items c.requires

pub returns-clause-rows : goal.returns-clause-rows
returns-clause-rows g c =
    let p = c.in_ok-rows.ensures in
    ((rows_parted g.J.Naming.names c.args.last _ _ _ p c.requires).0, (parted_count _ _ _ p).0)

pub returns-clause-seats : goal.returns-clause-seats
returns-clause-seats g c =
    let as_seat = seat_of g.S.Sender.inbox g.S.Sender.number g.S.Sender.sent g.S.Sender.resting in
    let p = c.in_ok-rows.ensures in
    ((rows_parted g.J.Naming.names c.args.last _ _ _ p c.requires).1, sym (length-mapped as_seat c.in_ok-rows.field-0.last.items) ∙ (parted_count _ _ _ p).1)

pub returns-clause-slots : goal.returns-clause-slots
returns-clause-slots g c = λ h. parted_sum h _ _ _ c.in_ok-rows.ensures
