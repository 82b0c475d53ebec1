-- What is posted, and what is taken.
use Rattle.std.specs.Prelude.{◌≡◌, ℕ, zero, suc, ◌<◌, ◌⊎◌, List, [], ◌∷◌, ◌++◌, All, IsPermutation, length}
use Rattle.slot_chain.specs.Buffer.{Buffer}
use Rattle.digit_route.specs.Digits.{Scheme}
use Rattle.digit_route.specs.Posts.{GivesAll}
use Rattle.digit_route.specs.States.{BatchState}
use Rattle.pool_desk.specs.Desks.{DeskState}
use Rattle.pool_desk.specs.Steps.{Handles}
use Rattle.batch_inbox.specs.States.{TakeState}
use Rattle.slot_balance.specs.Limits.{most_handled}
use Rattle.slot_balance.specs.Seats.{SeatState}

-- the buffers of several batches
abbrev pub buffers_in : List BatchState → List Buffer
buffers_in [] = []
buffers_in (b ∷ bs) = b.items ++ buffers_in bs

-- the batch was sent from the seat at k
abbrev pub sent_at : ℕ → BatchState → List SeatState → List SeatState
sent_at k b [] = []
sent_at zero b (s ∷ ss) = record s { sent = s.sent ++ b ∷ [] } ∷ ss
sent_at (suc k) b (s ∷ ss) = s ∷ sent_at k b ss

-- the batches were sent in turn, each from the seat at the inbox of its address
abbrev pub sent_all : List SeatState → List BatchState → List SeatState
sent_all seats [] = seats
sent_all seats (b ∷ bs) = sent_all (sent_at b.address b seats) bs

-- the batch was sent to its address, or its buffers were set aside
abbrev pub SendsOrKeeps : BatchState → List SeatState → List Buffer → List SeatState → List Buffer → Type 0
SendsOrKeeps b seats aside seats' aside' =
    ((b.address < length seats) × (seats' ≡ sent_at b.address b seats) × (aside' ≡ aside))
    ⊎ ((seats' ≡ seats) × IsPermutation (aside ++ b.items) aside')

-- Batches of desk a were taken out of its cache in turn, each the whole bucket for its address of what was there then.
-- Those that weren't refused were posted, each to its address; the buffers of the others were set aside, each the same.
pub record Posts (s : Scheme) (a : ℕ) (cached : List Buffer) (seats : List SeatState) (left aside : List Buffer)
    (seats' : List SeatState) : Type 0 where
  pub given : List BatchState
  pub posted : List BatchState
  pub refused : List BatchState
  pub whole : GivesAll s a cached given left
  pub parted : IsPermutation given (posted ++ refused)
  pub aside_is : IsPermutation (buffers_in refused) aside
  pub addresses : All (λ (b : BatchState). b.address < length seats) posted
  pub seats_are : seats' ≡ sent_all seats posted

-- the batches were handled in turn
abbrev pub HandlesAll : DeskState → List BatchState → DeskState → Type 0
HandlesAll old [] new = new ≡ old
HandlesAll old (b ∷ bs) new = (between : DeskState) × Handles old b.items between × HandlesAll between bs new

-- all batches but the last
abbrev pub before_last : List BatchState → List BatchState
before_last [] = []
before_last (b ∷ []) = []
before_last (b ∷ (c ∷ bs)) = b ∷ before_last (c ∷ bs)

-- n batches were taken, and handled in turn; those before the last have fewer buffers together than bound the call
pub record TakesSome (old : DeskState) (seat : TakeState) (n : ℕ) (new : DeskState) (seat' : TakeState) : Type 0 where
  pub batches : List BatchState
  pub count : length batches ≡ n
  pub taken : seat' ≡ record seat { taken = seat.taken ++ batches }
  pub handled : HandlesAll old batches new
  pub bounded : length (buffers_in (before_last batches)) < most_handled
