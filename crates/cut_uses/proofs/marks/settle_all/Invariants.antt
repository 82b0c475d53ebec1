use Rattle.std.proofs.Common.{◌≡◌, ◌++◌, map}
use Rattle.std.specs.List.{flat_map}
use Rattle.std.specs.Vec.Iter.{into_iter_items}
use Rattle.region_cut.specs.Fronts.{whole_of, settled_of, lent_of, rest_of}
use Rattle.region_cut.specs.Parts.{name_of, bytes_of}
use Rattle.cut_uses.proofs.marks.settle_all.Given as goal

abbrev pub invariant-loop-part : goal.invariant-loop-part
invariant-loop-part l = record {
  whole : whole_of l.front ≡ whole_of l.initial.front;
  settled : settled_of l.front ++ flat_map bytes_of (into_iter_items l.part-iterator) ≡ settled_of l.initial.front ++ flat_map bytes_of l.fn.parts.items;
  lent : lent_of l.front ≡ map name_of (into_iter_items l.part-iterator);
  rest : rest_of l.front ≡ rest_of l.initial.front;
}
