use Rattle.std.proofs.Common.{◌≡◌, replicate, []}
use Rattle.event_floor.proofs.inboxes.Inboxes.new.Given as goal

abbrev pub invariant-loop-inbox : goal.invariant-loop-inbox
invariant-loop-inbox l = l.inboxes.items ≡ replicate l._inbox []
