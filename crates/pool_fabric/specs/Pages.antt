-- What a contract sees of a page of the ledger.
use Rattle.std.specs.Prelude.{ℕ, List, [], ◌∷◌, ◌++◌}
use Rattle.region_cut.specs.declared.slot.Slot.{Slot}
use Rattle.pool_fabric.specs.declared.ledger.DrawnChunk.{DrawnChunk}

-- the chunk, as drawn for the class
abbrev pub drawn_for : ℕ → ℕ → DrawnChunk
drawn_for chunk class = record { chunk = chunk; class = class }

-- of which ledgers of chunks and of loans it is, its parts of the right to know the whole, the chunks that it gave and
-- those that it got, each with its class, and the slots that were lent and those that were taken back
pub record PageState : Type 0 where
  pub key : List ℕ
  pub loans : ℕ
  pub parts : ℕ
  pub gave : List DrawnChunk
  pub got : List DrawnChunk
  pub lent : List Slot
  pub freed : List Slot

-- nothing was given, got, lent or taken back
abbrev pub new_page : List ℕ → ℕ → ℕ → PageState
new_page key loans parts = record { key = key; loans = loans; parts = parts; gave = []; got = []; lent = []; freed = [] }

-- a slot was lent
abbrev pub lent_on : PageState → Slot → PageState
lent_on p s = record p { lent = p.lent ++ s ∷ [] }

-- slots were lent, one after the other
abbrev pub lent_all_on : PageState → List Slot → PageState
lent_all_on p ss = record p { lent = p.lent ++ ss }

-- slots were taken back
abbrev pub freed_on : PageState → List Slot → PageState
freed_on p ss = record p { freed = p.freed ++ ss }

abbrev pub key_of : ℕ × ℕ → List ℕ
key_of w = w.0 ∷ w.1 ∷ []
