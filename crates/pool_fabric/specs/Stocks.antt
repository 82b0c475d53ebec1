-- What a contract sees of the stock of chunks.
use Rattle.std.specs.Prelude.{◌≡◌, ◌≢◌, ℕ, ◌+◌, ◌<◌, ◌≤◌, List, [], ◌∷◌, ◌++◌, Option, Some, None, slice_get}
use Rattle.region_cut.specs.Limits.{chunk_limit}
use Rattle.region_cut.specs.declared.part.Part.{Part}
use Rattle.slot_audit.specs.Audit.{class_noted}
use Rattle.slot_balance.specs.Weights.{weigh}
use Rattle.pool_fabric.specs.declared.ledger.DrawnChunk.{DrawnChunk}
use Rattle.pool_fabric.specs.Accounts.{of_part, of_entry}
use Rattle.pool_fabric.specs.Ledgers.{whole}
use Rattle.pool_fabric.specs.Names.{Names}
use Rattle.pool_fabric.specs.Pages.{PageState, drawn_for}
use Rattle.pool_fabric.specs.Losses.{AreOnce}

-- the parts that are left, that of the greatest number first, and which chunks were drawn for which class
pub record StockState : Type 0 where
  pub left : List Part
  pub drawn : List (Option ℕ)

-- numbers rise along the parts, or stay
pub record IsRising (ps : List Part) : Type 0 where
  pub each : (i j : ℕ) (p q : Part) → slice_get ps i ≡ Some p → slice_get ps j ≡ Some q → i ≤ j → p.chunk ≤ q.chunk

-- numbers fall along the parts, or stay
pub record IsFalling (ps : List Part) : Type 0 where
  pub each : (i j : ℕ) (p q : Part) → slice_get ps i ≡ Some p → slice_get ps j ≡ Some q → i ≤ j → q.chunk ≤ p.chunk

-- each is the chunk of a region
pub record AreChunks (ps : List Part) : Type 0 where
  pub each : (k : ℕ) (p : Part) → slice_get ps k ≡ Some p → p.chunk < chunk_limit

-- no two are of one chunk
pub record AreApart (ps : List Part) : Type 0 where
  pub each : (i j : ℕ) (p q : Part) → slice_get ps i ≡ Some p → slice_get ps j ≡ Some q → p.chunk ≡ q.chunk → i ≡ j

-- none of these is told as drawn
pub record AreUndrawn (drawn : List (Option ℕ)) (ps : List Part) : Type 0 where
  pub each : (k : ℕ) (p : Part) → slice_get ps k ≡ Some p → class_noted drawn p.chunk ≡ None

-- the chunks told as drawn are those that were given, each for its class
pub record AreTold (drawn : List (Option ℕ)) (gave : List DrawnChunk) : Type 0 where
  pub given : (chunk class : ℕ) → class_noted drawn chunk ≡ Some class
      → (k : ℕ) × (slice_get gave k ≡ Some (drawn_for chunk class))
  pub told : (k : ℕ) (d : DrawnChunk) → slice_get gave k ≡ Some d → class_noted drawn d.chunk ≡ Some d.class

-- no chunk is drawn yet, and each is there once
pub record IsFull (s : StockState) : Type 0 where
  pub none : (k : ℕ) → class_noted s.drawn k ≡ None
  pub apart : AreApart s.left

-- no part is left of a lesser number
abbrev pub IsLeast : Part → List Part → Type 0
IsLeast p ps = (k : ℕ) (q : Part) → slice_get ps k ≡ Some q → p.chunk ≤ q.chunk

-- the chunk is noted as drawn for the class, and nothing else
pub record IsNoted (chunk class : ℕ) (old new : List (Option ℕ)) : Type 0 where
  pub noted : class_noted new chunk ≡ Some class
  pub others : (k : ℕ) → k ≢ chunk → class_noted new k ≡ class_noted old k

-- the part of least number was taken out, and its class noted
pub record GivesPart (old : StockState) (class : ℕ) (p : Part) (new : StockState) : Type 0 where
  pub left : old.left ≡ new.left ++ p ∷ []
  pub least : IsLeast p new.left
  pub noted : IsNoted p.chunk class old.drawn new.drawn

-- What lies under the stock's lock: the chunks that the book gave and those that are left
-- are the chunks that the stock began with, and those that are told as drawn are those that the book gave.
pub record IsStore (n : Names) (s : StockState) (book : PageState) : Type 0 where
  pub key : book.key ≡ n.ledger
  pub loans : book.loans ≡ n.loans
  pub none_got : book.got ≡ []
  pub none_lent : (book.lent ≡ []) × (book.freed ≡ [])
  pub parts : book.parts + n.count ≡ whole
  pub some_part : 0 < book.parts
  pub chunks : (g : ℕ → ℕ) → weigh (of_entry g) book.gave + weigh (of_part g) s.left ≡ weigh g n.chunks
  pub told : AreTold s.drawn book.gave
  pub undrawn : AreUndrawn s.drawn s.left
  pub apart : AreApart s.left
  pub once : AreOnce n.chunks
