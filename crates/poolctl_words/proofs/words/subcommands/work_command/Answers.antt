use Rattle.std.proofs.Common.{◌∙◌, ap₂}
use Rattle.std.proofs.lemmas.Result.{IfOk-weaker}
use Rattle.clap.specs.Words.{with_rule}
use Rattle.poolctl_words.proofs.words.subcommands.work_command.Goals as goal

pub returns-clause-app : goal.returns-clause-app
returns-clause-app c =
    let one = c.in_ok-command.ensures.app ∙ ap₂ with_rule c.plain_command-command.ensures.app c.text.ensures.rule in
    let two = c.in_ok-command-2.ensures.app ∙ ap₂ with_rule one c.option.ensures.rule in
    let three = c.in_ok-command-3.ensures.app ∙ ap₂ with_rule two c.option-2.ensures.rule in
    let four = c.in_ok-command-4.ensures.app ∙ ap₂ with_rule three c.option-3.ensures.rule in
    let five = c.in_ok-command-5.ensures.app ∙ ap₂ with_rule four c.option-4.ensures.rule in
    let six = c.in_ok-command-6.ensures.app ∙ ap₂ with_rule five c.option-5.ensures.rule in
    let seven = c.in_ok-command-7.ensures.app ∙ ap₂ with_rule six c.option-6.ensures.rule in
    let eight = c.in_ok-command-8.ensures.app ∙ ap₂ with_rule seven c.option-7.ensures.rule in
    IfOk-weaker c.with_argument-9.result _ _ (λ command app. app ∙ ap₂ with_rule eight c.flag.ensures.rule) c.with_argument-9.ensures.app
