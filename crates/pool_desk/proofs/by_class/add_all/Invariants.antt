use Rattle.std.proofs.Common.{take, map}
use Rattle.std.specs.List.{flat_map}
use Rattle.pool_desk.specs.Homes.{slot_at}
use Rattle.pool_desk.specs.HomesState.{slots_of_home}
use Rattle.slot_chain.specs.Slots.{AddsSlots}
use Rattle.pool_desk.proofs.by_class.add_all.Given as goal

abbrev pub invariant-loop-home : goal.invariant-loop-home
invariant-loop-home l = AddsSlots (map slot_at (flat_map slots_of_home (take l.home-index l.homes))) l.initial.slots.items l.slots.items
