use Rattle.chunk_stock.proofs.Noted.{AddedBelow}
use Rattle.chunk_stock.proofs.drawer.Drawer.note_all.Given as goal

abbrev pub invariant-loop-at : goal.invariant-loop-at
invariant-loop-at l = AddedBelow l.at l.self.drawn l.initial.drawn l.drawn
