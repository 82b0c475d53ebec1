use Rattle.std.specs.Prelude.{All}
use Rattle.chunk_stock.specs.Notes.{NotesNone}
use Rattle.chunk_stock.proofs.drawer.drawers.Given as goal

abbrev pub invariant-loop : goal.invariant-loop
invariant-loop l = All (λ d. NotesNone d.drawn) l.all.items
