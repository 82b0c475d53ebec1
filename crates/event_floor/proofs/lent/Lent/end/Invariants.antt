use Rattle.std.proofs.Common.{◌≡◌, length}
use Rattle.std.specs.Option.{option_to_list}
use Rattle.event_floor.proofs.EndLaws.{let_go}
use Rattle.event_floor.proofs.lent.Lent.end.Given as goal

abbrev pub invariant-loop-place : goal.invariant-loop-place
invariant-loop-place l = let_go option_to_list l.places.items l.endings ≡ let_go option_to_list l.initial.places.items l.initial.endings

abbrev pub decreases-loop-place : goal.decreases-loop-place
decreases-loop-place l = length l.places.items
