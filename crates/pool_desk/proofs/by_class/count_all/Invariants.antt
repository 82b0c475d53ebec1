use Rattle.std.proofs.Common.{◌≡◌, take, length}
use Rattle.std.specs.List.{flat_map}
use Rattle.slot_chain.specs.Counts.{capped}
use Rattle.pool_desk.specs.HomesState.{slots_of_home}
use Rattle.pool_desk.proofs.by_class.count_all.Given as goal

abbrev pub invariant-loop-home : goal.invariant-loop-home
invariant-loop-home l = l.total ≡ capped (length (flat_map slots_of_home (take l.home-index l.homes)))
