use Rattle.std.proofs.Common.{◌≡◌}
use Rattle.event_floor.specs.Desks.{new_desks}
use Rattle.event_floor.proofs.any_desk.idle_desks.Given as goal

abbrev pub invariant-loop-number : goal.invariant-loop-number
invariant-loop-number l = l.desks.items ≡ new_desks l.digits l.limit l.number
