use Rattle.std.proofs.Common.{◌≡◌, ◌++◌, length, map, flat_map, IsPermutation}
use Rattle.slot_chain.specs.Buffer.{ended_of}
use Rattle.event_floor.specs.headline.EndsKnown.{buffers_with}
use Rattle.event_floor.specs.headline.Names.{chunks_of}
use Rattle.event_floor.proofs.ending.end_desks.Given as goal

abbrev pub invariant-loop-desk : goal.invariant-loop-desk
invariant-loop-desk l = record {
  chunks : flat_map chunks_of l.desks.items ++ l.endings.chunks ≡ flat_map chunks_of l.initial.desks.items ++ l.initial.endings.chunks;
  known : IsPermutation (map ended_of (flat_map buffers_with l.initial.desks.items) ++ l.initial.endings.known) (map ended_of (flat_map buffers_with l.desks.items) ++ l.endings.known);
}

abbrev pub decreases-loop-desk : goal.decreases-loop-desk
decreases-loop-desk l = length l.desks.items
