-- Notes are added chunk by chunk.
use Rattle.std.proofs.Common.{◌≡◌, ◌≤◌, ◌<◌, ℕ, List, Option, Some, None}
use Rattle.slot_audit.specs.Audit.{class_noted}

-- the notes of the chunks below n were added
pub record AddedBelow (n : ℕ) (own old new : List (Option ℕ)) : Type 0 where
  pub noted : (k class : ℕ) → k < n → class_noted own k ≡ Some class → class_noted new k ≡ Some class
  pub none : (k : ℕ) → k < n → class_noted own k ≡ None → class_noted new k ≡ class_noted old k
  pub above : (k : ℕ) → n ≤ k → class_noted new k ≡ class_noted old k
