use Rattle.std.proofs.Common.{◌∙◌}
use Rattle.slot_chain.specs.Magazines.{named_in}
use Rattle.slot_chain.proofs.Tops.{fronts_are_none}
use Rattle.slot_chain.proofs.magazine.Magazine.into_empty.Goals as goal

pub invariant_of-result : goal.invariant_of-result
invariant_of-result c = fronts_are_none c.self.inside.whole (named_in c.self.inside.array) c.self.inside.linked (c.self.view_is ∙ c.requires)
