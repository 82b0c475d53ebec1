use Rattle.std.proofs.Common.{◌≡◌, length}
use Rattle.event_floor.specs.Inboxes.{buffers_in}
use Rattle.event_floor.proofs.EndLaws.{let_go}
use Rattle.event_floor.proofs.inboxes.end_inboxes.Given as goal

abbrev pub invariant-loop-inbox : goal.invariant-loop-inbox
invariant-loop-inbox l = let_go buffers_in l.inboxes.items l.endings ≡ let_go buffers_in l.initial.inboxes.items l.initial.endings

abbrev pub decreases-loop-inbox : goal.decreases-loop-inbox
decreases-loop-inbox l = length l.inboxes.items
