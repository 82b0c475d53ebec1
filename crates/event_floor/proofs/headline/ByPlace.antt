-- The names of a floor's buffers, read by the places of its lists.
use Rattle.std.proofs.Common.{◌≡◌, ℕ, zero, suc, ◌<◌, ◌≤◌, Bool, false, ◌==◌, List, [], ◌∷◌, length, get_or, All, Option, Some, None, sym, subst, ⊎_elim}
use Rattle.std.specs.Prelude.{IfSome}
use Rattle.std.specs.List.{slice_get}
use Rattle.std.specs.Option.{option_to_list, option_map_or}
use Rattle.std.proofs.lemmas.Bool.{cases_lt}
use Rattle.std.proofs.lemmas.Option.{slice_get_within, slice_get-get_or, get_or_from_slice_get}
use Rattle.std.proofs.Math.ListN.{get_or-eq_default}
use Rattle.std.proofs.lemmas.List.Elements.{All-nil, All-cons, All-head, All-append}
use Rattle.region_cut.specs.Carved.{Carved}
use Rattle.slot_chain.specs.Buffer.{Buffer}
use Rattle.pool_machine.specs.declared.chunk.DrawnChunk.{DrawnChunk}
use Rattle.event_floor.specs.Lent.{buffers_lent}
use Rattle.event_floor.specs.Inboxes.{QueuedState, inbox_at}
use Rattle.event_floor.specs.Floors.{FloorState, desk_at, desk_count, no_desk}
use Rattle.event_floor.specs.headline.Names.{HasName, IsNamedChunk, IsNamedDesk, AreNames}
use Rattle.event_floor.proofs.headline.Lists.{get_or_same, All-first, All-second}

-- `AreNames`, with the desks by their numbers, the lent buffers by their places in the table, and the inboxes by the
-- numbers of their desks, also where there is none
pub record NamesByPlace (names : List Carved) (v : FloorState) : Type 0 where
  pub count : length names ≡ length v.drawn
  pub chunks : (k : ℕ) (c : Carved) → slice_get names k ≡ Some c → IsNamedChunk v.parts v.drawn k c
  pub desks : (a : ℕ) → a < desk_count v → IsNamedDesk names v.drawn a (desk_at v a)
  pub lent : (i : ℕ) → IfSome (get_or v.lent i None) (HasName names)
  pub queued : (b : ℕ) → All (λ (p : QueuedState). All (HasName names) p.buffers) (inbox_at v.inboxes b)

-- ---- owners

-- the chunk was drawn for desk a
abbrev pub is_drawn_for : ℕ → Option DrawnChunk → Bool
is_drawn_for a o = option_map_or (λ (d : DrawnChunk). d.owner == a) o false

-- ---- the table of the lent buffers

pub lent_each : (P : Buffer → Type 0) (lent : List (Option Buffer)) → ((i : ℕ) → IfSome (get_or lent i None) P) → All P (buffers_lent lent)
lent_each P [] h = All-nil P
lent_each P (o ∷ lent) h = All-append P (option_to_list o) (buffers_lent lent) (one o (h zero)) (lent_each P lent (λ i. h (suc i)))
  where
    one : (o : Option Buffer) → IfSome o P → All P (option_to_list o)
    one None p = All-nil P
    one (Some b) p = All-cons P b [] p (All-nil P)

lent_there : (P : Buffer → Type 0) (lent : List (Option Buffer)) → All P (buffers_lent lent) → (i : ℕ) → IfSome (get_or lent i None) P
lent_there P [] h zero = tt
lent_there P [] h (suc i) = tt
lent_there P (o ∷ lent) h zero = one o (All-first P (option_to_list o) (buffers_lent lent) h)
  where
    one : (o : Option Buffer) → All P (option_to_list o) → IfSome o P
    one None p = tt
    one (Some b) p = All-head P b [] p
lent_there P (o ∷ lent) h (suc i) = lent_there P lent (All-second P (option_to_list o) (buffers_lent lent) h) i

-- ---- rows

-- so it is of each row, also of the empty one behind the end
row_there : {X : Type 0} (P : X → Type 0) (rows : List (List X)) → All (λ row. All P row) rows → (b : ℕ) → All P (get_or rows b [])
row_there P rows h b =
    ⊎_elim (λ (l : b < length rows). h b [] l)
    (λ (m : length rows ≤ b). subst (λ row. All P row) (sym (get_or-eq_default rows [] m)) (All-nil P)) (cases_lt b (length rows))

each_row_there : {X : Type 0} (P : X → Type 0) (rows : List (List X)) → ((b : ℕ) → All P (get_or rows b [])) → All (λ row. All P row) rows
each_row_there P rows h = λ k d l. subst (λ row. All P row) (get_or_same rows k [] d l) (h k)

-- ---- names

pub by_place : (names : List Carved) (v : FloorState) → AreNames names v → NamesByPlace names v
by_place names v n = record {
  count = n.count;
  chunks = n.chunks;
  desks = λ a l. n.desks a (desk_at v a) (slice_get-get_or v.desks a no_desk l);
  lent = lent_there (HasName names) v.lent n.lent;
  queued = row_there (λ (p : QueuedState). All (HasName names) p.buffers) v.inboxes n.queued;
}

pub by_list : (names : List Carved) (v : FloorState) → NamesByPlace names v → AreNames names v
by_list names v n = record {
  count = n.count;
  chunks = n.chunks;
  desks = λ a s e. subst (IsNamedDesk names v.drawn a) (get_or_from_slice_get v.desks a s no_desk e) (n.desks a (slice_get_within v.desks a s e));
  lent = lent_each (HasName names) v.lent n.lent;
  queued = each_row_there (λ (p : QueuedState). All (HasName names) p.buffers) v.inboxes n.queued;
}
