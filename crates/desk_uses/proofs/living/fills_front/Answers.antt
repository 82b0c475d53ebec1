use Rattle.std.proofs.Common.{◌≤◌, length, arith}
use Rattle.desk_uses.proofs.Begun.{front_tells}
use Rattle.desk_uses.proofs.living.fills_front.Goals as goal

pub returns : goal.returns
returns c =
    let long : 16 ≤ length c.args.region.now = let is = c.requires in omega (arith, is) in
    let done = c.filled_or_not.ensures in
    front_tells c.args.byte c.args.region.now c.filled_or_not.new.region done.0 c.begins_with.result long done.1 c.begins_with.ensures
