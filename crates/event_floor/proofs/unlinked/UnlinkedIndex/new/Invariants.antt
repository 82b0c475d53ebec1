use Rattle.std.proofs.Common.{◌≡◌, replicate}
use Rattle.event_floor.proofs.unlinked.UnlinkedIndex.new.Given as goal

abbrev pub invariant-loop-desk : goal.invariant-loop-desk
invariant-loop-desk l = l.by_sender.items ≡ replicate l._desk 0
