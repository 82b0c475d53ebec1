use Rattle.std.proofs.Common.{◌≡◌, length}
use Rattle.event_floor.proofs.ChunkLaws.{parts_let_go}
use Rattle.event_floor.proofs.chunks.end_parts.Given as goal

abbrev pub invariant-loop-part : goal.invariant-loop-part
invariant-loop-part l = parts_let_go l.parts.items l.endings ≡ parts_let_go l.initial.parts.items l.initial.endings

abbrev pub decreases-loop-part : goal.decreases-loop-part
decreases-loop-part l = length l.parts.items
