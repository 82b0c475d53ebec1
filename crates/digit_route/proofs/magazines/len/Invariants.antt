use Rattle.std.proofs.Common.{◌≡◌, ◌-◌, ◌^◌, min, take, length}
use Rattle.std.specs.List.{flat_map}
use Rattle.digit_route.proofs.magazines.len.Given as goal

abbrev pub invariant-loop-magazine : goal.invariant-loop-magazine
invariant-loop-magazine l = l.total ≡ min (length (flat_map (λ x. x) (take l.magazine-index l.magazines))) (2 ^ 64 - 1)
