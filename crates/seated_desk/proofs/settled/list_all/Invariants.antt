use Rattle.std.proofs.Common.{take}
use Rattle.slot_chain.specs.Slots.{AddsSlots}
use Rattle.seated_desk.specs.Settled.{listed}
use Rattle.seated_desk.proofs.settled.list_all.Given as goal

abbrev pub invariant-loop-station : goal.invariant-loop-station
invariant-loop-station l = AddsSlots (listed (take l.station-index l.shelf)) l.initial.found.items l.found.items
