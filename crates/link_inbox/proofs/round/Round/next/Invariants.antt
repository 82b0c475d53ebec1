use Rattle.std.proofs.Common.{◌≡◌, ℕ, ◌-◌, ◌*◌}
use Rattle.link_inbox.specs.Reading.{left_in}
use Rattle.link_inbox.proofs.round.Round.next.Given as goal

abbrev pub invariant-loop-self : goal.invariant-loop-self
invariant-loop-self l = (l.self.senders ≡ l.initial.self.senders) × ((s : ℕ) → left_in l.self s ≡ left_in l.initial.self s)

abbrev pub decreases-loop-self : goal.decreases-loop-self
decreases-loop-self l = l.self.senders * 16 - l.self.next
