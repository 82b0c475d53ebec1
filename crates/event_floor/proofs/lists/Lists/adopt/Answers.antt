use Rattle.std.proofs.Common.{◌<◌, ◌∙◌, length, ap, subst, arith}
use Rattle.event_floor.specs.Desks.{in_hands_of}
use Rattle.event_floor.specs.Floors.{FloorState}
use Rattle.event_floor.specs.Steps.{MeetsHeld}
use Rattle.event_floor.proofs.FloorLaws.{desk_read}
use Rattle.event_floor.proofs.HeldLaws.{held_here, idle_here, not_so}
use Rattle.event_floor.proofs.StepLaws.{adopts}
use Rattle.event_floor.proofs.lists.Lists.adopt.Goals as goal

pub returns-then-is_held-clause-refuses : goal.returns-then-is_held-clause-refuses
returns-then-is_held-clause-refuses c =
    let there : c.args.a < length c.self.inside.desks.items = omega (arith, c.if-place-len.false, c.len.ensures, c.self.inside.desks.ok) in
    let held = held_here c.index_mut-desk.result.now (c.is_held.ensures.0 c.if-is_held.true) in
    subst (λ (v : FloorState). MeetsHeld v c.args.a) c.self.view_is
    (held.0, (there, desk_read _ _ _ _ there c.index_mut-desk.ensures.value held.1))

pub returns-clause-does : goal.returns-clause-does
returns-clause-does c =
    let there : c.args.a < length c.self.inside.desks.items = omega (arith, c.if-place-len.false, c.len.ensures, c.self.inside.desks.ok) in
    let idle = idle_here c.index_mut-desk.result.now (not_so _ c.is_held.ensures.1 c.if-is_held.false) in
    adopts _ _ c.args.a c.args.worker idle.0 c.hold.new.self c.self.view_is
    (there, desk_read _ _ _ _ there c.index_mut-desk.ensures.value idle.1) (c.hold.ensures ∙ ap (in_hands_of c.args.worker) idle.1)
