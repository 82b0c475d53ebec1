-- Where no chunk is drawn.
use Rattle.std.proofs.Common.{ℕ, zero, suc, ◌≡◌, ◌≤◌, List, Option, None, length, replicate, refl, subst, sym, arith}
use Rattle.slot_audit.specs.Audit.{class_noted, slots_for}
use Rattle.slot_audit.specs.Tallies.{FitsTable}

pub undrawn_at : (n k : ℕ) → class_noted (replicate n None) k ≡ None
undrawn_at zero k = refl
undrawn_at (suc n) zero = refl
undrawn_at (suc n) (suc k) = undrawn_at n k

pub undrawn_fits : (drawn : List (Option ℕ)) → length drawn ≡ 1024 → ((k : ℕ) → class_noted drawn k ≡ None) → FitsTable drawn
undrawn_fits drawn len none = record {
  chunks = len;
  few = λ k. subst (λ (c : Option ℕ). slots_for c ≤ 256) (sym (none k)) (omega arith);
}
