-- What a contract sees of an inbox and of its seats.
use Rattle.std.specs.Prelude.{◌≡◌, ℕ, List, [], ◌∷◌, Some, slice_get, slice_index_or}
use Rattle.digit_route.specs.States.{BatchState}
use Rattle.batch_inbox.specs.declared.place.Place.{Place}
use Rattle.batch_inbox.specs.declared.rule.View.{View}
use Rattle.batch_inbox.specs.Views.{taker}

-- which inbox it is, by a name that no other has, and where it is
pub record InboxId : Type 0 where
  pub key : List ℕ
  pub place : Place

-- the inbox over this queue
abbrev pub inbox_of : ℕ × ℕ → Place → InboxId
inbox_of web place = record { key = web.0 ∷ web.1 ∷ []; place = place }

-- a sender's seat: the sender's number, and what was sent from it
pub record SendState : Type 0 where
  pub inbox : InboxId
  pub sender : ℕ
  pub sent : List BatchState

-- the receiver's seat: how many senders there are, and what was taken
pub record TakeState : Type 0 where
  pub inbox : InboxId
  pub senders : ℕ
  pub taken : List BatchState

-- these are the seats of this inbox, in order of their senders' numbers from 0
abbrev pub AreSeatsOf : InboxId → List SendState → Type 0
AreSeatsOf inbox seats =
    (k : ℕ) (s : SendState) → slice_get seats k ≡ Some s → (s.inbox ≡ inbox) × (s.sender ≡ k)

-- nothing was sent from these seats
abbrev pub AreNew : List SendState → Type 0
AreNew seats = (k : ℕ) (s : SendState) → slice_get seats k ≡ Some s → s.sent ≡ []

-- what is left of the sender k
abbrev pub left : List (List BatchState) → ℕ → List BatchState
left rest k = slice_index_or rest k []

-- what the pass of the receiver's seat knows
abbrev pub view_of : TakeState → View
view_of t = taker t.inbox.place t.senders t.taken []
