-- What a contract sees of the seats of senders and receivers.
use Rattle.std.specs.Prelude.{◌≡◌, ℕ, Bool, true, List, [], ◌∷◌, ◌++◌, ⊤, Some, slice_get}
use Rattle.digit_route.specs.Digits.{Scheme}
use Rattle.digit_route.specs.States.{BatchState}
use Rattle.batch_inbox.specs.States.{InboxId, TakeState}

-- a send seat: of which inbox, of which sender, what was sent from it, and whether it is at rest
pub record SeatState : Type 0 where
  pub inbox : InboxId
  pub sender : ℕ
  pub sent : List BatchState
  pub resting : Bool

abbrev pub seat_of : {S : Type 0} → (S → InboxId) → (S → ℕ) → (S → List BatchState) → (S → Bool) → S → SeatState
seat_of inbox number sent resting s = record { inbox = inbox s; sender = number s; sent = sent s; resting = resting s }

-- a take seat
abbrev pub taking_of : {T : Type 0} → (T → InboxId) → (T → ℕ) → (T → List BatchState) → T → TakeState
taking_of inbox senders taken t = record { inbox = inbox t; senders = senders t; taken = taken t }

-- these are the seats of the sender a, each at the inbox of its place, which is that desk's; all are at rest
pub record AreSeatsAt (digits : Scheme) (a : ℕ) (boxes : List InboxId) (seats : List SeatState) : Type 0 where
  pub each : (k : ℕ) (x : SeatState) → slice_get seats k ≡ Some x
      → (slice_get boxes k ≡ Some x.inbox) × (x.inbox.place ≡ record { address = k; digits = digits }) × (x.sender ≡ a) × (x.resting ≡ true)

-- the rows, each without its last seat, and these last seats
abbrev pub AreParted : (rows others : List (List SeatState)) (last : List SeatState) → Type 0
AreParted [] [] [] = ⊤
AreParted (r ∷ rs) (o ∷ os) (x ∷ xs) = (r ≡ o ++ x ∷ []) × AreParted rs os xs
AreParted rs os xs = ⊥
