use Rattle.std.proofs.Common.{◌≡◌, map, ◌++◌, Some}
use Rattle.chunk_stock.proofs.drawer.in_slots.Given as goal

abbrev pub invariant-loop-part : goal.invariant-loop-part
invariant-loop-part l = record {
  slots : l.slots.items ≡ map (λ p. Some p) l.yielded;
  joined : l.yielded ++ l.part-iterator.rest.items ≡ l.fn.parts.items;
}
