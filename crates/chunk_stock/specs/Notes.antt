-- What a drawer notes of the chunks that it drew.
use Rattle.std.specs.Prelude.{◌≡◌, ◌≢◌, ℕ, List, Option, Some, None}
use Rattle.region_cut.specs.declared.part.Part.{Part}
use Rattle.slot_audit.specs.Audit.{class_noted}

-- no chunk is noted
abbrev pub NotesNone : List (Option ℕ) → Type 0
NotesNone notes = (k : ℕ) → class_noted notes k ≡ None

-- the chunk is noted for the class, and what was noted of others stays
pub record NotesAt (chunk class : ℕ) (old new : List (Option ℕ)) : Type 0 where
  pub noted : class_noted new chunk ≡ Some class
  pub others : (k : ℕ) → k ≢ chunk → class_noted new k ≡ class_noted old k

-- the chunk that was drawn is noted for the class; where none was, nothing is
abbrev pub Draws : ℕ → List (Option ℕ) → Option Part → List (Option ℕ) → Type 0
Draws class old None new = new ≡ old
Draws class old (Some p) new = NotesAt p.chunk class old new

-- each chunk that is noted in `own` is noted for the same class in `new`, and each other one as in `old`
pub record AddsNotes (own old new : List (Option ℕ)) : Type 0 where
  pub noted : (k class : ℕ) → class_noted own k ≡ Some class → class_noted new k ≡ Some class
  pub others : (k : ℕ) → class_noted own k ≡ None → class_noted new k ≡ class_noted old k
