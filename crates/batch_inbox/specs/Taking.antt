-- What a call does that takes a batch, and what it learns where there is none.
use Rattle.std.specs.Prelude.{◌≡◌, ℕ, Option, List, [], ◌∷◌, ◌++◌, MatchOption}
use Rattle.crossbeam_queue.specs.Fifo.{Learns}
use Rattle.digit_route.specs.States.{BatchState}
use Rattle.batch_inbox.specs.declared.rule.View.{View}
use Rattle.batch_inbox.specs.declared.place.Place.{Place}
use Rattle.batch_inbox.specs.Views.{place_of}
use Rattle.batch_inbox.specs.Order.{IsInOrder}
use Rattle.batch_inbox.specs.States.{TakeState, view_of}

-- the seat is of the same inbox as before, which has as many senders, whatever was taken
abbrev pub IsSameSeat : TakeState → TakeState → Type 0
IsSameSeat old new = (new.inbox ≡ old.inbox) × (new.senders ≡ old.senders)

-- what was taken, old and new: just the batch more that the call answers, which goes to this place; at `None` the same
abbrev pub TakesAtMostOne : Place → List BatchState → List BatchState → Option BatchState → Type 0
TakesAtMostOne place old new answer =
    MatchOption answer (new ≡ old) (λ x. (new ≡ old ++ x ∷ []) × (place_of x ≡ place))

-- the rule of the inbox teaches this fact to the receiver at this seat, whatever the queue holds
abbrev pub ReceiverLearns : TakeState → (View → List BatchState → Type 0) → Type 0
ReceiverLearns seat fact = (pass : ℕ) → Learns IsInOrder pass (view_of seat) (fact (view_of seat))

-- the fact, told to the receiver at this seat of the empty queue
abbrev pub HoldsOfEmpty : TakeState → (View → List BatchState → Type 0) → Type 0
HoldsOfEmpty seat fact = fact (view_of seat) []
