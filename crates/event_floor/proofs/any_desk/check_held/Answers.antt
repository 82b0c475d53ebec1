use Rattle.std.proofs.Common.{refl, sym, ◌∙◌, inr}
use Rattle.event_floor.specs.Floors.{no_desk}
use Rattle.event_floor.proofs.HeldLaws.{held_here, idle_here, not_so}
use Rattle.event_floor.proofs.any_desk.check_held.Goals as goal

pub returns-then-is_held-clause-held : goal.returns-then-is_held-clause-held
returns-then-is_held-clause-held c =
    let read = c.in-Some.ensures.lookup.3 in
    let held = held_here c.in-Some.desk.now (c.is_held.ensures.0 c.if-is_held.true) in
    (read.0, held.0, sym (read.1 no_desk) ∙ held.1)

pub returns-else-is_held-clause-refused : goal.returns-else-is_held-clause-refused
returns-else-is_held-clause-refused c =
    let read = c.in-Some.ensures.lookup.3 in
    let idle = idle_here c.in-Some.desk.now (not_so _ c.is_held.ensures.1 c.if-is_held.false) in
    inr (idle.0, read.0, sym (read.1 no_desk) ∙ idle.1, refl)
