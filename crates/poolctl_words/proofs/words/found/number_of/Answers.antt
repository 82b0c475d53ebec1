use Rattle.std.proofs.Common.{refl}
use Rattle.std.specs.Str.Parse.{ParsesUnsigned, ExplainsUnsignedError, HasUnsignedDigitsIfOk}
use Rattle.poolctl_words.proofs.Spelled.{reads}
use Rattle.poolctl_words.proofs.words.found.number_of.Goals as goal

pub returns : goal.returns
returns c = reads _ (λ bs r. ParsesUnsigned 32 10 bs r × ExplainsUnsignedError 10 bs r × HasUnsignedDigitsIfOk bs r) c.args.matches.now c.args.name.now _ c.get_one.result refl
    c.get_one.ensures.none c.get_one.ensures.value (λ u x g. g.0)
