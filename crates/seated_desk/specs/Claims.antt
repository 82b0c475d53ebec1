-- What stays of a desk, and which chunks it claimed.
use Rattle.std.specs.Prelude.{◌≡◌, ◌≢◌, ◌<◌, ◌==◌, ◌&&◌, ℕ, Bool, List, Option, Some, None, count_by}
use Rattle.region_cut.specs.Carved.{Carved}
use Rattle.slot_audit.specs.Audit.{class_noted}
use Rattle.pool_desk.specs.Desks.{DeskState}

-- number, digits and chunks are the same
pub record IsSameDesk (old new : DeskState) : Type 0 where
  pub number : new.number ≡ old.number
  pub digits : new.digits ≡ old.digits
  pub drawn : new.drawn ≡ old.drawn

-- the chunk was claimed for the class
abbrev pub is_claim : ℕ → ℕ → Carved → Bool
is_claim chunk class c = (c.chunk == chunk) && (c.class == class)

abbrev pub IsClaimed : List Carved → ℕ → ℕ → Type 0
IsClaimed claims chunk class = 0 < count_by (is_claim chunk class) claims

-- a chunk that is noted for a class was claimed for it, and each chunk that was claimed is noted
abbrev pub AreNoted : List (Option ℕ) → List Carved → Type 0
AreNoted notes claims =
    ((chunk class : ℕ) → class_noted notes chunk ≡ Some class → IsClaimed claims chunk class)
    × ((chunk class : ℕ) → IsClaimed claims chunk class → class_noted notes chunk ≢ None)
