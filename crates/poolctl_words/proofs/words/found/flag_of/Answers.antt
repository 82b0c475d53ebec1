use Rattle.poolctl_words.proofs.Spelled.{has_flag}
use Rattle.poolctl_words.proofs.words.found.flag_of.Goals as goal

pub returns : goal.returns
returns c = has_flag c.args.matches.now c.args.name.now c.get_flag.result c.get_flag.ensures.none c.get_flag.ensures.other c.get_flag.ensures.value
