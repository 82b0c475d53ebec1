use Rattle.std.proofs.Common.{Some, ap, sym, ◌∙◌}
use Rattle.clap.specs.Words.{found_of}
use Rattle.clap.proofs.WalkLemmas.{first_value-rows}
use Rattle.poolctl_words.proofs.words.found.workload_of.Goals as goal

pub returns-in-prodcons : goal.returns-in-prodcons
returns-in-prodcons c = sym (first_value-rows (found_of c.args.matches.now) _) ∙ (sym c.in_ok-get_str.ensures ∙ ap Some c.in-prodcons.is)

pub returns-in-ring : goal.returns-in-ring
returns-in-ring c = sym (first_value-rows (found_of c.args.matches.now) _) ∙ (sym c.in_ok-get_str.ensures ∙ ap Some c.in-ring.is)

pub returns-in-replace : goal.returns-in-replace
returns-in-replace c = sym (first_value-rows (found_of c.args.matches.now) _) ∙ (sym c.in_ok-get_str.ensures ∙ ap Some c.in-replace.is)
