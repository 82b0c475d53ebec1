use Rattle.std.proofs.Common.{◌≡◌, ℕ, ◌-◌, ◌*◌, ◌+◌, ◌<◌, ◌≤◌, true, false, get_or}
use Rattle.std.specs.Mem.Slots.{slots_filled, slots_len}
use Rattle.link_inbox.specs.Remains.{spot}
use Rattle.link_inbox.proofs.round.Round.drop.Given as goal

abbrev pub invariant-loop-at : goal.invariant-loop-at
invariant-loop-at l = (slots_len l.closed.slots ≡ l.senders * 16 + 1) × (l.senders ≤ 64) × (l.at ≤ l.senders * 16)
    × ((k : ℕ) → l.at ≤ k → k < l.senders * 16 → get_or (slots_filled l.closed.slots) (spot l.turns k) false ≡ true)
    × (get_or (slots_filled l.closed.slots) 0 false ≡ false) × ((k : ℕ) → k < l.at → get_or (slots_filled l.closed.slots) (spot l.turns k) false ≡ false)

abbrev pub decreases-loop-at : goal.decreases-loop-at
decreases-loop-at l = l.senders * 16 - l.at
