use Rattle.std.proofs.Common.{◌≡◌, ◌++◌, take}
use Rattle.slot_balance.proofs.notes.Notes.and_all.Given as goal

abbrev pub invariant-loop-value : goal.invariant-loop-value
invariant-loop-value T l = l.all.items ≡ l.fn.self.items ++ take l.value-index l.values
