-- What a contract sees of a desk's seats.
use Rattle.std.specs.Prelude.{◌≡◌, ℕ, List, map, is_none, Some, slice_get}
use Rattle.digit_route.specs.Digits.{Scheme}
use Rattle.batch_inbox.specs.States.{InboxId}
use Rattle.link_inbox.specs.States.{SendState}
use Rattle.slot_balance.specs.Seats.{SeatState, AreSeatsAt}

abbrev pub seat_at : SendState → SeatState
seat_at s = record { inbox = s.inbox; sender = s.sender; sent = s.sent; resting = is_none s.half }

abbrev pub seats_at : List SendState → List SeatState
seats_at seats = map seat_at seats

-- the seats of the desk with this number: it takes from its own inbox, and posts to each from a seat of its own
pub record IsSeated (digits : Scheme) (number : ℕ) (boxes : List InboxId) (take : InboxId) (seats : List SeatState) : Type 0 where
  pub own : slice_get boxes number ≡ Some take
  pub place : take.place ≡ record { address = number; digits = digits }
  pub posts : AreSeatsAt digits number boxes seats
