-- What the rule says in the words of the queue.
use Rattle.std.specs.Prelude.{◌≡◌, ℕ, ◌<◌, ◌⊎◌, Bool, true, false, Option, Some, None}
use Rattle.std.specs.Prelude.{List, [], ◌∷◌, ◌++◌, map, length, slice_index_or}
use mathlib.Core.Option.{some}
use lib.ListN.{get_elem?}
use Rattle.digit_route.specs.States.{BatchState}
use Rattle.batch_inbox.specs.Views.{batches_of}
use Rattle.batch_inbox.specs.declared.place.Place.{Place}
use Rattle.link_inbox.specs.declared.rule.View.{View}
use Rattle.link_inbox.specs.declared.rule.Role.{Role}
use Rattle.link_inbox.specs.declared.rule.Role.TheVariants.{Idle, Prepared, Attached, Ready, Lifted, Spent}
use Rattle.link_inbox.specs.Rule.{free_mark, Entry, item_of, TableState, next_word, Half, IsInOrder}
use Rattle.link_inbox.specs.States.{IsFor}

-- a sender's seat, in a call or between two
abbrev pub sends : Role → Bool
sends Idle = true
sends Prepared = true
sends Attached = true
sends Ready = false
sends Lifted = false
sends Spent = false

-- the receiver's
abbrev pub takes : Role → Bool
takes Idle = false
takes Prepared = false
takes Attached = false
takes Ready = true
takes Lifted = true
takes Spent = false

-- the seat j knows v
abbrev pub Sees : TableState BatchState → ℕ → View BatchState → Type 0
Sees s j v = get_elem? s.views j ≡ some v

-- From the node m over these nodes one comes to the node `back`: the next word of each names the one after it, or is 0
-- while that one is half-linked.
abbrev pub Leads : List ℕ → List (View BatchState) → ℕ → List (Entry BatchState) → ℕ → Type 0
Leads words views m [] back = m ≡ back
Leads words views m (e ∷ es) back =
    ((next_word words m ≡ e.node) ⊎ ((next_word words m ≡ 0) × Half views m e.node))
    × Leads words views e.node es back

-- the queue behind the front of the receiver's seat u
pub record QueueIs (s : TableState BatchState) (u : View BatchState) : Type 0 where
  pub queue : List (Entry BatchState)
  pub reached : Leads s.words s.views u.node queue (slice_index_or s.words 0 0)
  pub laid : (k : ℕ) (e : Entry BatchState) → get_elem? queue k ≡ some e
      → (get_elem? s.homes e.node ≡ some (some (Some e.item))) × IsFor u.place e.by e.item
  pub sent : (j : ℕ) (v : View BatchState) → Sees s j v → sends v.role ≡ true
      → v.list ≡ batches_of v.sender u.list ++ batches_of v.sender (map item_of queue)

-- no sender's seat was taken in yet
abbrev pub AllOut : TableState BatchState → View BatchState → Type 0
AllOut s u =
    (k : ℕ) → k < u.made
    → (j : ℕ) × (v : View BatchState) × Sees s j v × (sends v.role ≡ true) × (v.sender ≡ k)

-- the law, of a state of the table
pub record OrderKept (s : TableState BatchState) : Type 0 where
  pub one_receiver : (a b : ℕ) (u v : View BatchState) → Sees s a u → Sees s b v
      → takes u.role ≡ true → takes v.role ≡ true → a ≡ b
  pub one_seat : (a b : ℕ) (u v : View BatchState) → Sees s a u → Sees s b v
      → sends u.role ≡ true → sends v.role ≡ true → u.sender ≡ v.sender → a ≡ b
  pub queued : (a : ℕ) (u : View BatchState) → Sees s a u → takes u.role ≡ true → AllOut s u → QueueIs s u
  pub free : (n : ℕ) → n < length s.homes → next_word s.words n ≡ free_mark
      → get_elem? s.homes n ≡ some (some None)

abbrev pub KeepsOrder : Type 0
KeepsOrder = (place : Place) (s : TableState BatchState) → IsInOrder IsFor place s → OrderKept s
