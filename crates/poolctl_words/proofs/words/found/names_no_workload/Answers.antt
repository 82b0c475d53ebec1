use Rattle.std.proofs.Common.{◌∙◌}
use Rattle.clap.specs.Words.{found_of}
use Rattle.clap.proofs.WalkLemmas.{first_value-rows}
use Rattle.poolctl_words.proofs.Spelled.{no_workload_is}
use Rattle.poolctl_words.proofs.words.found.names_no_workload.Goals as goal

pub returns-in-Some : goal.returns-in-Some
returns-in-Some c _ w named =
    no_workload_is c.in-Some.field-0.now c.in-Some.not-prodcons c.in-Some.not-ring c.in-Some.not-replace w
    (c.in-Some.ensures ∙ (first_value-rows (found_of c.args.matches.now) _ ∙ named))
