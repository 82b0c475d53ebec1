use Rattle.std.proofs.Common.{◌≤◌, arith}
use Rattle.region_cut.specs.Classes.{largest_of}
use Rattle.region_cut.proofs.ByStep.{least_of}
use Rattle.region_cut.proofs.profile.Profile.class_for.Goals as goal

pub returns-clause-least : goal.returns-clause-least
returns-clause-least c =
    let fits : c.args.n ≤ largest_of c.args.self = omega arith in
    least_of c.args.self c.args.n c.least_for.result fits c.least_for.ensures.holds c.least_for.ensures.least
