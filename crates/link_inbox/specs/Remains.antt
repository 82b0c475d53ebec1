-- What an ended inbox still has of each sender: its 16 slots, from the one whose turn it is on.
use Rattle.std.specs.Prelude.{ℕ, zero, suc, ◌+◌, ◌-◌, ◌*◌, ◌/◌, ◌%◌, List, [], ◌∷◌, Option, Some, None, slice_index_or}

-- the slot of the reading number k: 16 for each sender, from its turn on
abbrev pub spot : List ℕ → ℕ → ℕ
spot turns k = k / 16 * 16 + 1 + (slice_index_or turns (k / 16) 0 + k % 16) % 16

module _ {B : Type 0} where
  abbrev pub ahead : Option B → List B → List B
  ahead None l = l
  ahead (Some b) l = b ∷ l

  -- the last c of the 16 slots from the turn on
  abbrev pub row : List (Option B) → ℕ → ℕ → ℕ → List B
  row slots base turn zero = []
  row slots base turn (suc c) =
      ahead (slice_index_or slots (base + (turn + (15 - c)) % 16) None) (row slots base turn c)

  -- what readings from number `next` on give of the sender s
  abbrev pub row_of : List (Option B) → List ℕ → ℕ → ℕ → List B
  row_of slots turns next s = row slots (s * 16 + 1) (slice_index_or turns s 0) (16 - (next - s * 16))

  -- the same of n senders, from the sender s on
  abbrev pub rows : List (Option B) → List ℕ → ℕ → ℕ → ℕ → List (List B)
  rows slots turns next s zero = []
  rows slots turns next s (suc n) = row_of slots turns next s ∷ rows slots turns next (suc s) n
