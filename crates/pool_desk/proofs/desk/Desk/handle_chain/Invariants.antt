use Rattle.std.proofs.Common.{length}
use Rattle.pool_desk.proofs.HandleLaws.{Handled}
use Rattle.pool_desk.proofs.desk.Desk.handle_chain.Given as goal

abbrev pub invariant-loop-buf : goal.invariant-loop-buf
invariant-loop-buf l = Handled l.fn.self l.fn.counts l.initial.chain l.chain l.self l.counts

abbrev pub decreases-loop-buf : goal.decreases-loop-buf
decreases-loop-buf l = length l.chain
