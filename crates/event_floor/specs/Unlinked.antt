-- The index of the batches that still have to be linked.
use Rattle.std.specs.Prelude.{ℕ, ◌≡◌, ◌<◌, List, Option, Some, IfSome, nat_eq, length, slice_index_or, count_by}
use Rattle.std.specs.List.{IsDistinct}
use Rattle.std.specs.Map.{lookup, keys_of, values_of}
use Rattle.event_floor.specs.declared.unlinked.Unlinked.{Unlinked}
use Rattle.event_floor.specs.Inboxes.{QueuedState, inbox_at, no_batch, IsUnlinked}

-- how many desks there are, and the numbers of the batches, each with who sent it and in whose inbox it waits
pub record UnlinkedState : Type 0 where
  pub desks : ℕ
  pub entries : List (ℕ × Unlinked)

-- what is known of the batch of this number; None: it doesn't have to be linked
abbrev pub unlinked_of : UnlinkedState → ℕ → Option Unlinked
unlinked_of v number = lookup (nat_eq number) v.entries

-- how many of them this desk sent
abbrev pub sent_by : ℕ → List (ℕ × Unlinked) → ℕ
sent_by sender entries = count_by (λ (h : Unlinked). nat_eq h.sender sender) (values_of entries)

-- each number has one entry, a desk sent each batch, and the count of each desk is right
pub record AreCounted (counts : List ℕ) (entries : List (ℕ × Unlinked)) : Type 0 where
  pub distinct : IsDistinct nat_eq (keys_of entries)
  pub senders : (number : ℕ) → IfSome (lookup (nat_eq number) entries) (λ (h : Unlinked). h.sender < length counts)
  pub counted : (sender : ℕ) → sender < length counts → slice_index_or counts sender 0 ≡ sent_by sender entries

-- a batch of this number, which this desk sent, still has to be linked: one of these, and in the inbox of a desk
abbrev pub HasUnlinked : List QueuedState → ℕ → ℕ → Type 0
HasUnlinked queued number sender =
    (place : ℕ) × (place < length queued) × IsUnlinked number (slice_index_or queued place no_batch)
    × ((slice_index_or queued place no_batch).batch.sender ≡ sender)

abbrev pub WaitsUnlinked : List (List QueuedState) → ℕ → ℕ → ℕ → Type 0
WaitsUnlinked inboxes number sender inbox =
    (inbox < length inboxes) × HasUnlinked (inbox_at inboxes inbox) number sender

-- the index has those batches of the inboxes that still have to be linked, and no others
pub record IsIndexOf (inboxes : List (List QueuedState)) (v : UnlinkedState) : Type 0 where
  pub desks : v.desks ≡ length inboxes
  pub waits : (number : ℕ) (h : Unlinked) → unlinked_of v number ≡ Some h
      → WaitsUnlinked inboxes number h.sender h.inbox
  pub known : (number sender inbox : ℕ) → WaitsUnlinked inboxes number sender inbox
      → unlinked_of v number ≡ Some (record { sender = sender; inbox = inbox })
