use Rattle.std.proofs.Common.{◌≡◌, ◌-◌, ◌^◌, min, take}
use Rattle.std.specs.Prelude.{sum_by}
use Rattle.std.specs.List.{flat_map}
use Rattle.slot_chain.specs.Counts.{buffer_size}
use Rattle.digit_route.proofs.magazines.bytes.Given as goal

abbrev pub invariant-loop-magazine : goal.invariant-loop-magazine
invariant-loop-magazine l = l.total ≡ min (sum_by buffer_size (flat_map (λ x. x) (take l.magazine-index l.magazines))) (2 ^ 64 - 1)
