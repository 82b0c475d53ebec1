-- Batches that are held as they are.
use Rattle.std.specs.Prelude.{◌≡◌, ℕ, List, [], Option, Some, None}
use Rattle.std.specs.List.{flat_map}
use Rattle.slot_chain.specs.Buffer.{Buffer}
use Rattle.digit_route.specs.Digits.{Scheme}
use Rattle.digit_route.specs.Route.{IsWellRouted}
use Rattle.digit_route.specs.States.{BatchState}

-- the buffers of a batch, where there is one
abbrev pub batch_items : Option BatchState → List Buffer
batch_items None = []
batch_items (Some b) = b.items

-- the buffers of the batches, one batch after another
abbrev pub kept_items : List (Option BatchState) → List Buffer
kept_items bs = flat_map batch_items bs

-- there is a batch, and desk a sends it
abbrev pub IsKept : Scheme → ℕ → Option BatchState → Type 0
IsKept s a None = ⊥
IsKept s a (Some b) = (b.sender ≡ a) × (b.digits ≡ s) × IsWellRouted s a b.address b.items
