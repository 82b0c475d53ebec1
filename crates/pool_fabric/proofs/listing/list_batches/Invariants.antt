use Rattle.std.proofs.Common.{take}
use Rattle.slot_chain.specs.Slots.{AddsSlots}
use Rattle.pool_fabric.specs.Audited.{batch_slots, listed}
use Rattle.pool_fabric.proofs.listing.list_batches.Given as goal

abbrev pub invariant-loop-batch : goal.invariant-loop-batch
invariant-loop-batch l = AddsSlots (listed batch_slots (take l.batch-index l.batches)) l.initial.slots.items l.slots.items
