-- The batches that wait in the inboxes.
use Rattle.std.specs.Prelude.{ℕ, ◌≡◌, ◌<◌, true, false, List, [], ◌∷◌, ◌++◌, length, slice_index_or, slice_set}
use Rattle.std.specs.Prelude.{All, Any}
use Rattle.std.specs.List.{flat_map, AllPairs}
use Rattle.slot_chain.specs.Buffer.{Buffer}
use Rattle.digit_route.specs.Digits.{Scheme}
use Rattle.slot_chain.specs.Counts.{capped}
use Rattle.digit_route.specs.States.{BatchState}
use Rattle.digit_route.specs.Route.{GivesBucket}
use Rattle.pool_desk.specs.Desks.{DeskState}
use Rattle.pool_machine.specs.State.{Waiting}

-- a batch that waits: what the machine sees of it, how numbers are read, its buffers
pub record QueuedState : Type 0 where
  pub batch : Waiting
  pub digits : Scheme
  pub buffers : List Buffer

-- a batch as it was sent, and the same batch once it is linked
abbrev pub sent_as : ℕ → BatchState → QueuedState
sent_as number b = record {
  batch = record { number = number; sender = b.sender; address = b.address; linked = false };
  digits = b.digits;
  buffers = b.items;
}

abbrev pub as_linked : QueuedState → QueuedState
as_linked p = record p { batch = record p.batch { linked = true } }

-- a batch that no desk stands for
abbrev pub no_batch : QueuedState
no_batch = record {
  batch = record { number = 0; sender = 0; address = 0; linked = false };
  digits = record { width = 0; bits = 0 };
  buffers = [];
}

-- the inbox of a desk, in order of arrival
abbrev pub inbox_at : List (List QueuedState) → ℕ → List QueuedState
inbox_at inboxes b = slice_index_or inboxes b []

-- the buffers of these batches
abbrev pub buffers_in : List QueuedState → List Buffer
buffers_in queued = flat_map (λ (p : QueuedState). p.buffers) queued

-- it has this number, and still has to be linked
abbrev pub IsUnlinked : ℕ → QueuedState → Type 0
IsUnlinked number p = (p.batch.number ≡ number) × (p.batch.linked ≡ false)

-- it was sent by this desk, and still has to be linked
abbrev pub IsUnlinkedOf : ℕ → QueuedState → Type 0
IsUnlinkedOf sender p = (p.batch.sender ≡ sender) × (p.batch.linked ≡ false)

-- such a batch waits in some inbox, and in none
abbrev pub SomeQueued : (QueuedState → Type 0) → List (List QueuedState) → Type 0
SomeQueued P inboxes = (b : ℕ) × (b < length inboxes) × Any P (inbox_at inboxes b)

abbrev pub NoneQueued : (QueuedState → Type 0) → List (List QueuedState) → Type 0
NoneQueued P inboxes = (b : ℕ) → b < length inboxes → All (λ (p : QueuedState). P p → ⊥) (inbox_at inboxes b)

-- the batch at a place of an inbox has this number, and still has to be linked
abbrev pub IsUnlinkedAt : List (List QueuedState) → ℕ → ℕ → ℕ → Type 0
IsUnlinkedAt inboxes number inbox place =
    (inbox < length inboxes) × (place < length (inbox_at inboxes inbox))
    × IsUnlinked number (slice_index_or (inbox_at inboxes inbox) place no_batch)

-- each batch has a greater number than those before it
abbrev pub NumbersRise : List QueuedState → Type 0
NumbersRise queued = AllPairs (λ (p q : QueuedState). p.batch.number < q.batch.number) queued

-- nothing can be taken: the inbox is empty, or its front still has to be linked
abbrev pub HasNoFront : List QueuedState → Type 0
HasNoFront [] = Unit {0}
HasNoFront (p ∷ ps) = p.batch.linked ≡ false

-- the desk's bucket for t left its cache and waits behind all others, as a batch of this number with so many buffers
pub record SendsInto (before : DeskState) (t number count : ℕ) (old : List QueuedState) (after : DeskState)
    (new : List QueuedState) : Type 0 where
  pub batch : BatchState
  pub address : batch.address ≡ t
  pub gives : GivesBucket before.digits before.number before.cached batch after.cached
  pub same_desk : after ≡ record before { cached = after.cached }
  pub counted : count ≡ capped (length batch.items)
  pub queued : new ≡ old ++ sent_as number batch ∷ []

-- the front, a linked batch, left the inbox
pub record LeavesFront (b : BatchState) (old new : List QueuedState) : Type 0 where
  pub front : QueuedState
  pub is_front : old ≡ front ∷ new
  pub linked : front.batch.linked ≡ true
  pub address : b.address ≡ front.batch.address
  pub digits : b.digits ≡ front.digits
  pub items : b.items ≡ front.buffers

-- the same of the inboxes of all desks: the batch waits in that of t, and the others stay
pub record SendsTo (before : DeskState) (t number count : ℕ) (old : List (List QueuedState)) (after : DeskState)
    (new : List (List QueuedState)) : Type 0 where
  pub inbox : List QueuedState
  pub sends : SendsInto before t number count (inbox_at old t) after inbox
  pub same : new ≡ slice_set old t inbox

-- and the front left the inbox of b
pub record TakesFrom (batch : BatchState) (b : ℕ) (old new : List (List QueuedState)) : Type 0 where
  pub rest : List QueuedState
  pub leaves : LeavesFront batch (inbox_at old b) rest
  pub same : new ≡ slice_set old b rest

-- the batch of this number, which still had to be linked, is linked
pub record LinksUnlinked (number : ℕ) (old new : List (List QueuedState)) : Type 0 where
  pub inbox : ℕ
  pub place : ℕ
  pub unlinked : IsUnlinkedAt old number inbox place
  pub same : new ≡ slice_set old inbox
      (slice_set (inbox_at old inbox) place (as_linked (slice_index_or (inbox_at old inbox) place no_batch)))
