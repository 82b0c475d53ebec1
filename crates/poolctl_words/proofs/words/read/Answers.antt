use Rattle.std.proofs.Common.{◌∙◌, ap, map, string_bytes, subst, sym}
use Rattle.clap.specs.Words.{App, is_simple, subcommand_of, takes}
use Rattle.poolctl_words.specs.Asked.{AskedBy, NamesWorkload}
use Rattle.poolctl_words.proofs.words.read.Goals as goal

pub returns-clause-refused : goal.returns-clause-refused
returns-clause-refused c = λ good. c.why.ensures (c.in-Err.ensures.passes (ap (λ (a : App). takes a (map string_bytes c.args.words.now)) c.in-Ok.ensures ∙ good.0))

pub returns-in-None-clause-refused : goal.returns-in-None-clause-refused
returns-in-None-clause-refused c = λ good.
    let rows = (c.in-Ok-try_get_matches_from.ensures.matches (ap is_simple c.in-Ok.ensures)).1 ∙ ap (λ (a : App). subcommand_of a (map string_bytes c.args.words.now)) c.in-Ok.ensures in
    absurd (c.asks_for_no_workload.ensures c.if-asks_for_no_workload.true (subst NamesWorkload (sym rows) good.1))

pub returns-in-Some-clause-asked : goal.returns-in-Some-clause-asked
returns-in-Some-clause-asked c =
    let rows = (c.in-Ok-try_get_matches_from.ensures.matches (ap is_simple c.in-Ok.ensures)).1 ∙ ap (λ (a : App). subcommand_of a (map string_bytes c.args.words.now)) c.in-Ok.ensures in
    subst (λ r. AskedBy r c.in-Some.asked) rows c.in-Some.ensures
