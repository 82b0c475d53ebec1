use Rattle.std.proofs.Common.{◌-◌, ◌<◌, length, refl, arith}
use Rattle.std.proofs.lemmas.Option.{slice_get_read}
use Rattle.pool_desk.proofs.spares.last_with_room.Goals as goal

pub returns-then-capacity-places : goal.returns-then-capacity-places
returns-then-capacity-places c =
    let inside : c.loop-at.at - 1 < length c.args.arrays.now = omega (arith, c.loop-at.invariant, c.loop-at-test.true) in
    record {
      array = c.index-arrays-at.result;
      there = slice_get_read _ _ (c.loop-at.at - 1) _ refl inside c.index-arrays-at.is;
      room = rw (← c.capacity.ensures) c.if-capacity-places.true;
    }
