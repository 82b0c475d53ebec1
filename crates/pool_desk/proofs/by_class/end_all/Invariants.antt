use Rattle.std.proofs.Common.{◌≡◌, length}
use Rattle.pool_desk.proofs.EndLaws.{all_let_go}
use Rattle.pool_desk.proofs.by_class.end_all.Given as goal

abbrev pub invariant-loop-home : goal.invariant-loop-home
invariant-loop-home l = all_let_go l.homes.items l.endings ≡ all_let_go l.initial.homes.items l.initial.endings

abbrev pub decreases-loop-home : goal.decreases-loop-home
decreases-loop-home l = length l.homes.items
