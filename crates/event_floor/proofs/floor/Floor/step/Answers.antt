use Rattle.std.proofs.Common.{◌≡◌, subst}
use Rattle.event_floor.specs.Floors.{FloorState}
use Rattle.event_floor.specs.Steps.{Answers}
use Rattle.event_floor.specs.headline.Headline.{Applies}
use Rattle.event_floor.proofs.StepLaws.{answers_of}
use Rattle.event_floor.proofs.headline.Keeping.{stays_named}
use Rattle.event_floor.proofs.headline.Kept.{stays_held_some}
use Rattle.event_floor.proofs.headline.Runs.{step_applies, step_shows}
use Rattle.event_floor.proofs.headline.Wholes.{stays_whole, stays_over}
use Rattle.event_floor.proofs.floor.Floor.step.Goals as goal

pub invariant_of-self : goal.invariant_of-self
invariant_of-self c =
    let v = c.self.inside.lists in
    let w = c.apply-answer.new.self in
    let y = c.apply-answer.result in
    let e = c.apply-answer.ensures in
    let m = answers_of v w c.args.request y e.does e.refuses e.unchanged in
    let k = c.self.invariant in (
      stays_whole v w c.args.request y k.0 m c.keeps.ensures,
      step_shows v w c.args.request y (step_applies v w c.args.request y k.0 m) k.1,
      stays_named v w c.args.request y k.1 k.2 m,
      stays_held_some v w c.args.request y k.2 m k.3,
    )

pub returns-clause-applies : goal.returns-clause-applies
returns-clause-applies c =
    let v = c.self.inside.lists in
    let w = c.apply-answer.new.self in
    let y = c.apply-answer.result in
    let e = c.apply-answer.ensures in
    let m = answers_of v w c.args.request y e.does e.refuses e.unchanged in
    subst (λ u. Applies u c.args.request y w) c.self.view_is (step_applies v w c.args.request y c.self.invariant.0 m)

pub returns-clause-parts : goal.returns-clause-parts
returns-clause-parts c =
    let v = c.self.inside.lists in
    let w = c.apply-answer.new.self in
    let y = c.apply-answer.result in
    let e = c.apply-answer.ensures in
    let m = answers_of v w c.args.request y e.does e.refuses e.unchanged in
    subst (λ (u : FloorState). w.parts ≡ u.parts) c.self.view_is (stays_over v w c.args.request y c.self.invariant.0 m)

pub returns-clause-answers : goal.returns-clause-answers
returns-clause-answers c =
    let e = c.apply-answer.ensures in
    let w = c.apply-answer.new.self in
    subst (λ u. Answers u c.args.request c.apply-answer.result w) c.self.view_is
    (answers_of c.self.inside.lists w c.args.request c.apply-answer.result e.does e.refuses e.unchanged)

pub returns-clause-named : goal.returns-clause-named
returns-clause-named c =
    let v = c.self.inside.lists in
    let w = c.apply-answer.new.self in
    let y = c.apply-answer.result in
    let e = c.apply-answer.ensures in
    let k = c.self.invariant in
    stays_named v w c.args.request y k.1 k.2 (answers_of v w c.args.request y e.does e.refuses e.unchanged)
