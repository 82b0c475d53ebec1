use Rattle.std.proofs.Common.{take}
use Rattle.slot_chain.specs.Slots.{AddsSlots}
use Rattle.pool_fabric.specs.Audited.{idle_slots, listed}
use Rattle.pool_fabric.proofs.listing.list_idle.Given as goal

abbrev pub invariant-loop-desk : goal.invariant-loop-desk
invariant-loop-desk l = AddsSlots (listed idle_slots (take l.desk-index l.desks)) l.initial.slots.items l.slots.items
