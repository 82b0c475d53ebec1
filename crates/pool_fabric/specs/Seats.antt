-- The seats of one sender.
use Rattle.std.specs.Prelude.{◌≡◌, ℕ, true, List, length, Some, slice_get}
use Rattle.batch_inbox.specs.States.{InboxId}
use Rattle.pool_fabric.specs.Names.{Names, box_at}
pub use Rattle.slot_balance.specs.Seats.{SeatState, seat_of}
pub use Rattle.slot_balance.specs.Opened.{NoneSent}

-- these are the seats of the sender a, one at each inbox, in order, all at rest
pub record AreSeatsBy (n : Names) (a : ℕ) (seats : List SeatState) : Type 0 where
  pub each : (k : ℕ) (x : SeatState) → slice_get seats k ≡ Some x
      → (x.inbox ≡ box_at n k) × (x.sender ≡ a) × (x.resting ≡ true)

-- the inboxes of a fabric, that of each desk at its number
pub record AreBoxes (n : Names) (boxes : List InboxId) : Type 0 where
  pub count : length boxes ≡ n.count
  pub each : (k : ℕ) (i : InboxId) → slice_get boxes k ≡ Some i
      → (i ≡ box_at n k) × (i.place ≡ record { address = k; digits = n.digits })
