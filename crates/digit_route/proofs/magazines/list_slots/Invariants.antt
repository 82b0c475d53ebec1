use Rattle.std.proofs.Common.{map, take}
use Rattle.std.specs.List.{flat_map}
use Rattle.slot_chain.specs.Slots.{AddsSlots, slot_of}
use Rattle.digit_route.proofs.magazines.list_slots.Given as goal

abbrev pub invariant-loop-magazine : goal.invariant-loop-magazine
invariant-loop-magazine l = AddsSlots (map slot_of (flat_map (λ x. x) (take l.magazine-index l.magazines))) l.initial.slots.items l.slots.items
