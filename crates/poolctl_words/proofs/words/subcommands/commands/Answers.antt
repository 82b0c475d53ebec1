use Rattle.std.proofs.Common.{◌∙◌, ap, ap₂}
use Rattle.std.proofs.lemmas.Result.{IfOk-weaker}
use Rattle.clap.specs.Words.{App, with_subcommand}
use Rattle.poolctl_words.proofs.words.subcommands.commands.Goals as goal

pub returns : goal.returns
returns c =
    let top = λ (a : App). a.top in
    let one = c.in_ok-command.ensures ∙ ap₂ with_subcommand c.program.ensures (ap top c.plain_command-classes.ensures.app) in
    let two = c.in_ok-command-2.ensures ∙ ap₂ with_subcommand one (ap top c.plain_command-classes2.ensures.app) in
    let three = c.in_ok-command-3.ensures ∙ ap₂ with_subcommand two (ap top c.in_ok-route.ensures.app) in
    let four = c.in_ok-command-4.ensures ∙ ap₂ with_subcommand three (ap top c.in_ok-route2.ensures.app) in
    let five = c.in_ok-command-5.ensures ∙ ap₂ with_subcommand four (ap top c.in_ok-replay.ensures.app) in
    IfOk-weaker c.with_subcommand-6.result _ _ (λ command app. app ∙ ap₂ with_subcommand five (ap top c.in_ok-work.ensures.app)) c.with_subcommand-6.ensures
