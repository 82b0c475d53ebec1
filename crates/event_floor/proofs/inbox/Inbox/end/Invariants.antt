use Rattle.std.proofs.Common.{◌≡◌, length}
use Rattle.event_floor.specs.Inboxes.{QueuedState}
use Rattle.event_floor.proofs.EndLaws.{let_go}
use Rattle.event_floor.proofs.inbox.Inbox.end.Given as goal

abbrev pub invariant-loop-queued : goal.invariant-loop-queued
invariant-loop-queued l =
    let_go (λ (p : QueuedState). p.buffers) l.batches.items l.endings ≡ let_go (λ (p : QueuedState). p.buffers) l.initial.batches.items l.initial.endings

abbrev pub decreases-loop-queued : goal.decreases-loop-queued
decreases-loop-queued l = length l.batches.items
