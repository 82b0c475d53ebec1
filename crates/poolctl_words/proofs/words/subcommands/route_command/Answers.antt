use Rattle.std.proofs.Common.{◌∙◌, ap₂}
use Rattle.std.proofs.lemmas.Result.{IfOk-weaker}
use Rattle.clap.specs.Words.{with_rule}
use Rattle.poolctl_words.proofs.words.subcommands.route_command.Goals as goal

pub returns-clause-app : goal.returns-clause-app
returns-clause-app c =
    let one = c.in_ok-command.ensures.app ∙ ap₂ with_rule c.plain_command-command.ensures.app c.number.ensures.rule in
    let two = c.in_ok-command-2.ensures.app ∙ ap₂ with_rule one c.number-from.ensures.rule in
    IfOk-weaker c.with_argument-3.result _ _ (λ command app. app ∙ ap₂ with_rule two c.number-owner.ensures.rule) c.with_argument-3.ensures.app
