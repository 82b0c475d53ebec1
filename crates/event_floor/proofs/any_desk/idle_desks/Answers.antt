use Rattle.std.proofs.Common.{◌≡◌, ◌++◌, ◌∷◌, [], ◌∙◌, List, ap, arith}
use Rattle.event_floor.specs.Desks.AnyDeskState.{Idle}
use Rattle.event_floor.specs.Desks.{AnyDeskState, new_desks, new_desk}
use Rattle.event_floor.proofs.FloorLaws.{idle_desks_more}
use Rattle.event_floor.proofs.any_desk.idle_desks.Goals as goal

pub loop-number-preserved : goal.loop-number-preserved
loop-number-preserved c =
    c.push_reserved.ensures.items ∙ (ap (λ (z : AnyDeskState). c.loop-number.desks.items ++ z ∷ []) c.new.ensures
    ∙ (ap (λ (z : List AnyDeskState). z ++ Idle (new_desk c.args.digits c.args.limit c.loop-number.number) ∷ []) c.loop-number.invariant
    ∙ idle_desks_more c.args.digits c.args.limit c.loop-number.number))

pub returns : goal.returns
returns c =
    let all : c.loop-number.number ≡ c.args.count = omega (arith, c.loop-number-test.false, c.loop-number.auto.number-end) in
    c.loop-number.invariant ∙ ap (new_desks c.args.digits c.args.limit) all
