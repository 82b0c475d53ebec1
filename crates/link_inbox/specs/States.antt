-- What a contract sees of an inbox and of its seats.
use Rattle.std.specs.Prelude.{◌≡◌, ℕ, suc, ◌+◌, ◌*◌, ◌%◌, ◌<◌, ◌≤◌, Bool, true, false, Option, Some, None}
use Rattle.std.specs.Prelude.{List, [], ◌∷◌, length, slice_get}
use Rattle.batch_inbox.specs.Limits.{sender_limit}
use Rattle.atomic_table.specs.Seated.{TableId}
use Rattle.digit_route.specs.States.{BatchState}
use Rattle.batch_inbox.specs.States.{InboxId}
use Rattle.batch_inbox.specs.Views.{place_of}
use Rattle.batch_inbox.specs.declared.place.Place.{Place}
use Rattle.link_inbox.specs.declared.rule.View.{View}
use Rattle.link_inbox.specs.declared.rule.Role.{Role}
use Rattle.link_inbox.specs.declared.rule.Role.TheVariants.{Idle, Prepared, Attached, Ready, Lifted, Spent}
use Rattle.link_inbox.specs.Steps.{SeatState}

-- the most nodes of an inbox: 16 of each sender, and one
abbrev pub node_limit : ℕ
node_limit = 1025

abbrev pub key_of : TableId → List ℕ
key_of t = t.words ∷ t.slots ∷ t.views_name ∷ t.atom ∷ t.block ∷ t.offset ∷ t.slot_names

-- the inbox over this table
abbrev pub inbox_of : TableId → Place → InboxId
inbox_of table place = record { key = key_of table; place = place }

-- a link to be made: the node stands behind the other, whose next word does not name it yet
pub record HalfLink : Type 0 where
  pub node : ℕ
  pub before : ℕ

-- a sender's seat: the sender's number, what was sent from it, and what it has attached and not linked
pub record SendState : Type 0 where
  pub inbox : InboxId
  pub sender : ℕ
  pub sent : List BatchState
  pub half : Option HalfLink

-- the batch goes to this place, and this sender sends it
abbrev pub IsFor : Place → ℕ → BatchState → Type 0
IsFor place sender b = (b.sender ≡ sender) × (place_of b ≡ place)

-- these are the seats of this inbox, in order of their senders' numbers from 0
abbrev pub AreSeatsOf : InboxId → List SendState → Type 0
AreSeatsOf inbox seats =
    (k : ℕ) (s : SendState) → slice_get seats k ≡ Some s → (s.inbox ≡ inbox) × (s.sender ≡ k)

-- nothing was sent from these seats
abbrev pub AreNew : List SendState → Type 0
AreNew seats = (k : ℕ) (s : SendState) → slice_get seats k ≡ Some s → s.sent ≡ []

-- none of these seats has a batch attached and not linked
abbrev pub AreAtRest : List SendState → Type 0
AreAtRest seats = (k : ℕ) (s : SendState) → slice_get seats k ≡ Some s → s.half ≡ None

abbrev pub is_sender : Role → Bool
is_sender Idle = true
is_sender Prepared = false
is_sender Attached = true
is_sender Ready = false
is_sender Lifted = false
is_sender Spent = false

abbrev pub is_idle : Role → Bool
is_idle Idle = true
is_idle Prepared = false
is_idle Attached = false
is_idle Ready = false
is_idle Lifted = false
is_idle Spent = false

-- what a seat in this role has attached and not linked
abbrev pub half_of : Role → ℕ → ℕ → Option HalfLink
half_of Idle node before = None
half_of Prepared node before = None
half_of Attached node before = Some record { node = node; before = before }
half_of Ready node before = None
half_of Lifted node before = None
half_of Spent node before = None

-- a sender's seat at a table with this many slots, between two calls
pub record IsSendSeat (slots : ℕ) (me : SeatState BatchState) (sender turn : ℕ) (rests : Bool) : Type 0 where
  pub role : is_sender me.0.role ≡ true
  pub resting : rests ≡ is_idle me.0.role
  pub turned : turn ≡ length me.0.list % 16
  pub numbered : me.0.sender ≡ sender
  pub low : turn < 16
  pub own : 16 * sender + 17 ≤ slots
  pub near : (me.0.before < slots) × (me.0.node < slots)
  pub empty : me.1 ≡ []

-- the receiver's seat, between two calls
pub record IsTakeSeat (slots : ℕ) (me : SeatState BatchState) (front : ℕ) : Type 0 where
  pub role : me.0.role ≡ Ready
  pub fronted : me.0.node ≡ front
  pub inside : front < slots
  pub all : slots ≡ me.0.made * 16 + 1
  pub few : (1 ≤ me.0.made) × (me.0.made ≤ sender_limit)
  pub alone : me.0.known ≡ []
  pub empty : me.1 ≡ []
