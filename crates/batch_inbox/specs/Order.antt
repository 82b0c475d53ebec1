-- The rule of an inbox: sender by sender, what was sent is what was taken, and then what the queue holds.
use Rattle.std.specs.Prelude.{◌≡◌, ℕ, ◌<◌, ◌≤◌, ◌⊎◌, true, false, List, [], ◌∷◌, ◌++◌, length, slice_index_or, All}
use mathlib.Core.Option.{Option, some, none}
use lib.ListN.{get_elem?}
use Rattle.digit_route.specs.States.{BatchState}
use Rattle.batch_inbox.specs.declared.rule.View.{View}
use Rattle.batch_inbox.specs.declared.place.Place.{Place}
use Rattle.batch_inbox.specs.Views.{batches_of, opener, place_of}

-- each batch goes to this place
abbrev pub AllGoTo : Place → List BatchState → Type 0
AllGoTo place items = All (λ x. place_of x ≡ place) items

-- pass number `pass` knows v
abbrev pub Knows : List View → ℕ → View → Type 0
Knows views pass v = get_elem? views pass ≡ some v

-- what a sender's pass knows is so: it is the one pass of its sender, and knows what was sent
abbrev pub FitsSender : (ℕ → Option ℕ) → (ℕ → List BatchState) → Place → ℕ → View → Type 0
FitsSender seat sent place pass v =
    v.sends ≡ true → (seat v.sender ≡ some pass) × (sent v.sender ≡ v.sent) × (v.place ≡ place)

-- what the receiver's pass knows is so: it is the one such pass; it knows what was taken, that senders it made no
-- seat for have sent nothing, and what those sent in all whose seats it took in
abbrev pub FitsReceiver : ℕ → (ℕ → Option ℕ) → (ℕ → List BatchState) → List BatchState → Place → ℕ → View
    → Type 0
FitsReceiver receiver seat sent taken place pass v =
    v.takes ≡ true
    → (pass ≡ receiver) × (taken ≡ v.taken) × (v.place ≡ place)
    × ((s : ℕ) → v.made ≤ s → (seat s ≡ none) × (sent s ≡ []))
    × ((s : ℕ) → s < length v.known → (seat s ≡ none) × (slice_index_or v.known s [] ≡ sent s))
    × (length v.known ≤ v.made)

-- an inbox at a place, with one receiver's pass and at most one pass of each sender
pub record IsOpen (items : List BatchState) (views : List View) : Type 0 where
  pub place : Place
  pub receiver : ℕ
  pub seat : ℕ → Option ℕ
  pub sent : ℕ → List BatchState
  pub taken : List BatchState
  pub adds_up : (s : ℕ) → batches_of s (taken ++ items) ≡ sent s
  pub placed : AllGoTo place items
  pub opened : (pass : ℕ) (v : View) → Knows views pass v → v.opens ≡ false
  pub senders : (pass : ℕ) (v : View) → Knows views pass v → FitsSender seat sent place pass v
  pub receivers : (pass : ℕ) (v : View) → Knows views pass v → FitsReceiver receiver seat sent taken place pass v

-- an inbox that has no place yet
abbrev pub IsUnopened : List BatchState → List View → Type 0
IsUnopened items views = (items ≡ []) × (views ≡ opener ∷ [])

-- between any two steps on the queue, of what it holds and of what each pass knows
abbrev pub IsInOrder : List BatchState → List View → Type 0
IsInOrder items views = IsUnopened items views ⊎ IsOpen items views

-- what sender v sent is what receiver u took of it, and then what the queue holds of it, in order
pub record SentIs (items : List BatchState) (u v : View) : Type 0 where
  pub in_order : v.sent ≡ batches_of v.sender u.taken ++ batches_of v.sender items
  pub place : v.place ≡ u.place

-- the law, of a state of the queue and of the passes
pub record OrderKept (items : List BatchState) (views : List View) : Type 0 where
  pub one_receiver : (a b : ℕ) (u v : View) → Knows views a u → Knows views b v
      → u.takes ≡ true → v.takes ≡ true → a ≡ b
  pub one_seat : (a b : ℕ) (u v : View) → Knows views a u → Knows views b v
      → u.sends ≡ true → v.sends ≡ true → u.sender ≡ v.sender → a ≡ b
  pub sent : (a b : ℕ) (u v : View) → Knows views a u → Knows views b v
      → u.takes ≡ true → v.sends ≡ true → SentIs items u v
  pub placed : (a : ℕ) (u : View) → Knows views a u → u.takes ≡ true → AllGoTo u.place items

abbrev pub KeepsOrder : Type 0
KeepsOrder = (items : List BatchState) (views : List View) → IsInOrder items views → OrderKept items views
