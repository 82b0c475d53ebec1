use Rattle.std.proofs.Common.{length}
use Rattle.pool_desk.proofs.HandleLaws.{Handled}
use Rattle.pool_desk.proofs.desk.Desk.handle_and_empty.Given as goal

abbrev pub invariant-loop-portion : goal.invariant-loop-portion
invariant-loop-portion l = Handled l.fn.self (record { home = 0; on = 0 }) l.initial.magazine l.magazine l.self l.counts

abbrev pub decreases-loop-portion : goal.decreases-loop-portion
decreases-loop-portion l = length l.magazine
