-- Inboxes that were opened, and their seats.
use Rattle.std.specs.Prelude.{◌≡◌, ℕ, true, List, [], length, Some, slice_get}
use Rattle.digit_route.specs.Digits.{Scheme}
use Rattle.batch_inbox.specs.States.{InboxId, TakeState}
use Rattle.slot_balance.specs.Seats.{SeatState}

-- nothing was sent from these seats
abbrev pub NoneSent : List SeatState → Type 0
NoneSent seats = (k : ℕ) (x : SeatState) → slice_get seats k ≡ Some x → x.sent ≡ []

-- inboxes and their seats, where nothing was sent or taken: each seat is of the inbox at its place in the lists
pub record AreOpened (digits : Scheme) (senders : ℕ)
    (boxes : List InboxId) (takes : List TakeState) (columns : List (List SeatState)) : Type 0 where
  pub inbox : (k : ℕ) (i : InboxId) → slice_get boxes k ≡ Some i
      → i.place ≡ record { address = k; digits = digits }
  pub take : (k : ℕ) (t : TakeState) → slice_get takes k ≡ Some t
      → (slice_get boxes k ≡ Some t.inbox) × (t.senders ≡ senders) × (t.taken ≡ [])
  pub column : (k : ℕ) (c : List SeatState) → slice_get columns k ≡ Some c
      → (length c ≡ senders) × NoneSent c
      × ((a : ℕ) (s : SeatState) → slice_get c a ≡ Some s
      → (slice_get boxes k ≡ Some s.inbox) × (s.sender ≡ a) × (s.resting ≡ true))
