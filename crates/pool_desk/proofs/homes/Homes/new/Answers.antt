use Rattle.std.proofs.Common.{refl}
use Rattle.pool_desk.proofs.ByClassLaws.{empties_are, empties_slots, empties_drawn}
use Rattle.pool_desk.proofs.homes.Homes.new.Goals as goal

pub invariant_of-result : goal.invariant_of-result
invariant_of-result c = rw c.empty_homes.ensures (empties_are c.args.owner)

pub returns : goal.returns
returns c = rw (c.empty_homes.ensures, empties_slots, empties_drawn) refl
