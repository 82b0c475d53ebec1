use Rattle.std.proofs.Common.{length}
use Rattle.pool_desk.proofs.HandleLaws.{HandledOf}
use Rattle.pool_desk.proofs.desk.Desk.handle_each.Given as goal

abbrev pub invariant-loop-buf : goal.invariant-loop-buf
invariant-loop-buf l = HandledOf l.fn.self l.initial.array.items l.array.items l.self l.on

abbrev pub decreases-loop-buf : goal.decreases-loop-buf
decreases-loop-buf l = length l.array.items
