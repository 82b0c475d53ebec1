-- What the passes of an inbox know.
use Rattle.std.specs.Prelude.{ℕ, ◌+◌, ◌==◌, true, false, List, [], ◌∷◌, length, drop, slice_index_or}
use Rattle.std.specs.List.{filter}
use Rattle.digit_route.specs.States.{BatchState}
use Rattle.batch_inbox.specs.declared.rule.View.{View}
use Rattle.batch_inbox.specs.declared.place.Place.{Place}

-- the batches of the sender s, in order
abbrev pub batches_of : ℕ → List BatchState → List BatchState
batches_of s xs = filter (λ x. x.sender == s) xs

-- where a batch goes
abbrev pub place_of : BatchState → Place
place_of x = record { address = x.address; digits = x.digits }

-- the place in a view that knows of none
abbrev pub nowhere : Place
nowhere = record { address = 0; digits = record { width = 1; bits = 6 } }

-- a pass that knows nothing
abbrev pub spent : View
spent = record {
  opens = false;
  sends = false;
  takes = false;
  sender = 0;
  place = nowhere;
  made = 0;
  sent = [];
  taken = [];
  known = [];
}

-- the first pass, before the inbox has a place
abbrev pub opener : View
opener = record spent { opens = true }

-- the receiver's: it made this many seats, took these batches, and knows what the first senders sent in all
abbrev pub taker : Place → ℕ → List BatchState → List (List BatchState) → View
taker place made taken known = record spent { takes = true; place = place; made = made; taken = taken; known = known }

-- the one of the sender with this number, which sent these batches
abbrev pub poster : Place → ℕ → List BatchState → View
poster place sender sent = record spent { sends = true; place = place; sender = sender; sent = sent }

-- what a receiver that knows what all senders sent has yet to take of the sender s
abbrev pub left_of : View → ℕ → List BatchState
left_of v s = drop (length (batches_of s v.taken)) (slice_index_or v.known s [])

-- the same of all senders, from the sender s on
abbrev pub lefts : List BatchState → ℕ → List (List BatchState) → List (List BatchState)
lefts taken s [] = []
lefts taken s (l ∷ ls) = drop (length (batches_of s taken)) l ∷ lefts taken (s + 1) ls
