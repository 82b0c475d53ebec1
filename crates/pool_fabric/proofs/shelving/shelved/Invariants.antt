use Rattle.std.proofs.Common.{◌≡◌, ◌+◌, length, map}
use Rattle.pool_fabric.specs.Ledgers.{whole}
use Rattle.pool_fabric.specs.Pages.{new_page}
use Rattle.pool_fabric.specs.Gathered.{taking_of}
use Rattle.pool_fabric.specs.Opened.{AreColumns, AreNewTakes}
use Rattle.pool_fabric.proofs.shelving.shelved.Given as goal

abbrev pub invariant-loop-take : goal.invariant-loop-take
invariant-loop-take g l = record {
  takes : AreNewTakes g.J.Naming.names (map (taking_of g.T.Receiver.inbox g.T.Receiver.senders g.T.Receiver.taken) l.takes.items);
  columns : AreColumns g.J.Naming.names (length l.takes.items) l.columns.items;
  columns_count : length l.columns.items ≡ g.J.Naming.names.count;
  shelf : length l.shelf + length l.takes.items ≡ g.J.Naming.names.count;
  book : l.book ≡ new_page l.ledger g.J.Naming.names.loans l.book.parts;
  parts : l.book.parts + length l.shelf ≡ whole;
}

abbrev pub decreases-loop-take : goal.decreases-loop-take
decreases-loop-take g l = length l.takes.items
