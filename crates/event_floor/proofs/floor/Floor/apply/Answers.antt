use Rattle.std.proofs.Common.{subst}
use Rattle.event_floor.specs.Steps.{Answers}
use Rattle.event_floor.proofs.headline.Lacks.{may_lack}
use Rattle.event_floor.proofs.headline.Kept.{step_keeps_bytes}
use Rattle.event_floor.proofs.floor.Floor.apply.Goals as goal

pub returns-clause-bytes : goal.returns-clause-bytes
returns-clause-bytes c = step_keeps_bytes c.args.self.now c.step.new.self c.args.request c.step.result c.keeps.ensures.named c.keeps.ensures.held c.step.ensures.answers

pub returns-clause-memory : goal.returns-clause-memory
returns-clause-memory c = λ e.
    may_lack c.args.self.now c.args.request
    (subst (λ y. Answers c.args.self.now c.args.request y c.step.new.self) e c.step.ensures.answers).0
