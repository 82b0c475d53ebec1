use Rattle.std.proofs.Common.{◌≡◌, ◌+◌, length}
use Rattle.std.specs.Arc.{arc_value}
use Rattle.std.specs.Prelude.{All}
use Rattle.chunk_stock.specs.Notes.{NotesNone}
use Rattle.slot_balance.proofs.Opened.{AreLeft}
use Rattle.seated_desk.specs.Shelves.{AreNumbered}
use Rattle.seated_desk.proofs.opening.deal.Given as goal

abbrev pub invariant-loop-take : goal.invariant-loop-take
invariant-loop-take l = record {
  numbered : AreNumbered l.profile.pool (length l.fn.takes.items) l.shelf.items;
  count : length l.shelf.items + length l.takes.items ≡ length l.fn.takes.items;
  left : AreLeft l.profile.digits (length l.takes.items) (arc_value l.inboxes).items l.takes.items l.columns.items;
  new : All (λ d. NotesNone d.drawn) l.drawers.rest.items;
}

abbrev pub decreases-loop-take : goal.decreases-loop-take
decreases-loop-take l = length l.takes.items
