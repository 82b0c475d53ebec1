use Rattle.std.proofs.Common.{◌≡◌, ℕ, length, Some}
use Rattle.std.specs.Prelude.{slice_get}
use Rattle.pool_fabric.specs.Names.{box_at}
use Rattle.pool_fabric.proofs.found.close_all.Given as goal

abbrev pub invariant-loop-inbox : goal.invariant-loop-inbox
invariant-loop-inbox g l = record {
  columns : l.gathered.columns ≡ length l.inboxes.items;
  takes : length l.gathered.takes ≡ length l.inboxes.items;
  rows : length l.gathered.rows ≡ g.J.Naming.names.count;
  boxes : (k : ℕ) (i : g.row.M.Denot) → slice_get l.inboxes.items k ≡ Some i → g.M.Mailbox.id i ≡ box_at g.J.Naming.names k;
  page : l.gathered.page ≡ l.fn.gathered.page;
  desks : l.gathered.desks ≡ l.fn.gathered.desks;
  lent : l.gathered.lent ≡ l.fn.gathered.lent;
  freed : l.gathered.freed ≡ l.fn.gathered.freed;
}

abbrev pub decreases-loop-inbox : goal.decreases-loop-inbox
decreases-loop-inbox g l = length l.inboxes.items
