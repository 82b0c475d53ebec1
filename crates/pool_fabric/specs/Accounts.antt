-- What chunks weigh, wherever they are noted. What slots weigh is of `slot_balance`.
use Rattle.std.specs.Prelude.{ℕ}
use Rattle.region_cut.specs.declared.part.Part.{Part}
use Rattle.region_cut.specs.Carved.{Carved}
use Rattle.pool_desk.specs.Desks.{DeskState}
use Rattle.pool_fabric.specs.declared.ledger.DrawnChunk.{DrawnChunk}
use Rattle.slot_balance.specs.Weights.{weigh}
use Rattle.pool_fabric.specs.Pages.{drawn_for}
pub use Rattle.slot_balance.specs.Accounts.{of_buffer, of_home, of_batch, of_seat, of_seats, of_taking, of_chunk, held, owed}

-- chunks are weighed by their numbers

abbrev pub of_number : (ℕ → ℕ) → Carved → ℕ
of_number g c = g c.chunk

abbrev pub of_part : (ℕ → ℕ) → Part → ℕ
of_part g p = g p.chunk

-- the chunks that a desk drew
abbrev pub drawn_by : (ℕ → ℕ) → DeskState → ℕ
drawn_by g d = weigh (of_number g) d.drawn

-- the chunks on a page
abbrev pub of_entry : (ℕ → ℕ) → DrawnChunk → ℕ
of_entry g d = g d.chunk

-- chunks are weighed by their numbers and classes

abbrev pub of_drawn : (DrawnChunk → ℕ) → Carved → ℕ
of_drawn g c = g (drawn_for c.chunk c.class)

-- the chunks that a desk drew
abbrev pub drew : (DrawnChunk → ℕ) → DeskState → ℕ
drew g d = weigh (of_drawn g) d.drawn
